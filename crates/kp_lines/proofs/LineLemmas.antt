-- Lines that are told of a stream, call by call.
use Rattle.std.proofs.Common.{◌≡◌, ℕ, ◌+◌, List, [], ◌∷◌, ◌++◌, length, map, refl, sym, subst, ◌∙◌, append_assoc, append-nil, length-append, add-zero, arith}
use Rattle.std.proofs.lemmas.List.{map-append}
use Rattle.std.proofs.lemmas.List.Elements.{All-nil}
use Rattle.kp_lines.specs.declared.line.Line.{Line}
use Rattle.kp_lines.specs.Lines.{AreNumbered, beginning, bytes_of, Call, Cutting, Follow, taken_by, Tells, told_by}
use Rattle.kp_lines.specs.Split.{HasNone, SplitsAt}
use Rattle.kp_lines.proofs.SplitLemmas.{nothing_split, split_more}

-- ---- numbers

numbers_more : (n : ℕ) (lines more : List Line) → AreNumbered n lines → AreNumbered (n + length lines) more → AreNumbered n (lines ++ more)
numbers_more n [] more are later = subst (λ (k : ℕ). AreNumbered k more) (add-zero n) later
numbers_more n (line ∷ lines) more are later =
    (are.0, numbers_more (n + 1) lines more are.1 (subst (λ (k : ℕ). AreNumbered k more) (omega arith) later))

-- ---- calls

-- no call
pub told_nothing : (s : Cutting) → HasNone s.delimiter s.begun → Tells s [] [] s
told_nothing s none = record {
  split = subst (λ (bytes : List ℕ). SplitsAt s.delimiter bytes [] s.begun) (sym (append-nil s.begun)) (nothing_split s.delimiter s.begun none);
  numbers = tt;
  next = sym (add-zero s.next);
  delimiter = refl;
}

-- one call, and then others
pub told_more : (s t u : Cutting) (taken more : List ℕ) (told others : List Line) → Tells s taken told t → Tells t more others u
    → Tells s (taken ++ more) (told ++ others) u
told_more s t u taken more told others first later =
    let later_split = subst (λ (d : ℕ). SplitsAt d (t.begun ++ more) (map bytes_of others) u.begun) first.delimiter later.split in
    let all = split_more s.delimiter (s.begun ++ taken) more t.begun u.begun (map bytes_of told) (map bytes_of others) first.split later_split in
    let bytes : (s.begun ++ taken) ++ more ≡ s.begun ++ (taken ++ more) = append_assoc s.begun taken more in
    let lines : map bytes_of told ++ map bytes_of others ≡ map bytes_of (told ++ others) = sym (map-append bytes_of told others) in
    record {
      split = subst (λ (bs : List ℕ). SplitsAt s.delimiter bs (map bytes_of (told ++ others)) u.begun) bytes
          (subst (λ (ls : List (List ℕ)). SplitsAt s.delimiter ((s.begun ++ taken) ++ more) ls u.begun) lines all);
      numbers = numbers_more s.next told others first.numbers (subst (λ (n : ℕ). AreNumbered n others) first.next later.numbers);
      next = omega (arith, first.next, later.next, length-append told others);
      delimiter = later.delimiter ∙ first.delimiter;
    }

follow_tells : (s : Cutting) (calls : List Call) (after : Cutting) → HasNone s.delimiter s.begun → Follow s calls after
    → Tells s (taken_by calls) (told_by calls) after
follow_tells s [] after none follow = subst (λ (t : Cutting). Tells s [] [] t) (sym follow) (told_nothing s none)
follow_tells s (call ∷ calls) after none follow =
    let between = follow.0 in
    let first = follow.1 in
    let still = subst (λ (d : ℕ). HasNone d between.begun) (sym first.delimiter) first.split.none_in_rest in
    told_more s between after call.0 (taken_by calls) call.1 (told_by calls) first (follow_tells between calls after still follow.2)

pub all_told : (d : ℕ) (calls : List Call) (after : Cutting) → Follow (beginning d) calls after → Tells (beginning d) (taken_by calls) (told_by calls) after
all_told d calls after follow = follow_tells (beginning d) calls after (All-nil _) follow
