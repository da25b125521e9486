-- A schedule's text, read line by line.
use Rattle.std.proofs.Common.{◌≡◌, ℕ, ◌+◌, ◌<◌, List, [], ◌∷◌, ◌++◌, length, map, nat_lt, false, Ok, Err, refl, sym, ap, subst, ◌∙◌, append_assoc, append-nil, length-append, arith}
use Rattle.std.proofs.lemmas.Bool.Decides.{nat_tests}
use Rattle.kp_schedule.specs.Config.{config_of}
use Rattle.kp_schedule.specs.Draft.{IsSetWell, ReadsNext, at, with_saying}
use Rattle.kp_schedule.specs.Grammar.{Says}
use Rattle.kp_schedule.specs.Lines.{Text, lines}
use Rattle.kp_schedule.specs.Reading.{Drafted, MayFollow, MayStand, Say, drafted, set_or, settings_in}
use Rattle.kp_schedule.specs.Schedule.{HasSaying, IsShort, ParsesSchedule}
use Rattle.kp_schedule.specs.declared.fault.ReplayFault.{ReplayFault}
use Rattle.kp_schedule.specs.declared.fault.ReplayFault.TheVariants.{BadLine, NoSuch, Config, TooLong, OutOfMemory}
use Rattle.kp_schedule.specs.declared.saying.Saying.{Saying}
use Rattle.kp_schedule.specs.declared.schedule.Schedule.{Schedule}
use Rattle.kp_schedule.specs.declared.setting.Setting.{Setting}
use Rattle.kp_schedule.specs.declared.setting.Setting.TheVariants.{Partitions, Senders}
use Rattle.kp_schedule.proofs.SayLemmas.{drafted-push, say-length, say-push, all-well, set-well}

-- All lines before the rest were read, and come to this.
pub record HasRead (text rest : Text) (number : ℕ) (d : Drafted) : Type 0 where
  pub short : IsShort text
  pub earlier : List Text
  pub there : lines text ≡ earlier ++ lines rest
  pub count : number ≡ length earlier
  pub sayings : List Saying
  pub said : Say [] earlier sayings
  pub draft : d ≡ drafted sayings

pub is-short : (text : Text) → nat_lt 100000 (length (lines text)) ≡ false → IsShort text
is-short text more = grind (arith, nat_tests)

pub none-read : (text : Text) (d : Drafted) → IsShort text → d ≡ drafted [] → HasRead text text 0 d
none-read text d short none = record {
  short = short;
  earlier = [];
  there = refl;
  count = refl;
  sayings = [];
  said = tt;
  draft = none;
}

module _ (text rest : Text) (number : ℕ) (d : Drafted) (read : HasRead text rest number d) where
  pub well : (name : Setting) → IsSetWell name d.settings
  well name =
      subst (λ e. IsSetWell name e.settings) (sym read.draft) (set-well name (settings_in read.sayings) (all-well [] read.earlier read.sayings read.said))

  pub all-read : length rest ≡ 0 → (s : Schedule) → s.config ≡ config_of d.settings → s.partitions ≡ set_or Partitions 1 d.settings → s.senders ≡ set_or Senders 1 d.settings → map at s.events ≡ d.events → ParsesSchedule text (Ok s)
  all-read end s config partitions senders events = (
    read.short,
    record {
      sayings = read.sayings;
      said = subst (λ ls. Say [] ls read.sayings) (sym whole) read.said;
      config = config ∙ ap (λ e. config_of e.settings) read.draft;
      partitions = partitions ∙ ap (λ e. set_or Partitions 1 e.settings) read.draft;
      senders = senders ∙ ap (λ e. set_or Senders 1 e.settings) read.draft;
      events = events ∙ ap (λ e. e.events) read.draft;
    },
  )
    where
      no-lines : (bs : Text) → length bs ≡ 0 → lines bs ≡ []
      no-lines [] none = refl
      no-lines (b ∷ bs) none = absurd (omega arith)

      whole : lines text ≡ read.earlier
      whole = read.there ∙ ap (λ ls. read.earlier ++ ls) (no-lines rest end) ∙ append-nil read.earlier

  module _ (line behind : Text) (next : lines rest ≡ line ∷ lines behind) where
    here : lines text ≡ read.earlier ++ line ∷ lines behind
    here = read.there ∙ ap (λ ls. read.earlier ++ ls) next

    pub room : number < 100000
    room = omega (arith, read.short, ap length here, length-append read.earlier (line ∷ lines behind), read.count)

    placed : number + 1 ≡ length read.sayings + 1
    placed = omega (arith, read.count, say-length [] read.earlier read.sayings read.said)

    may : (x : Saying) → MayStand d x → MayFollow read.sayings x
    may x stands = subst (λ e. MayStand e x) read.draft stands

    pub one-more : (done : Unit {0}) (new : Drafted) → ReadsNext d (number + 1) line (Ok done) new → HasRead text behind (number + 1) new
    one-more done new (x, says, stands, is) = record {
      short = read.short;
      earlier = read.earlier ++ line ∷ [];
      there = here ∙ sym (append_assoc read.earlier (line ∷ []) (lines behind));
      count = omega (arith, read.count, length-append read.earlier (line ∷ []));
      sayings = read.sayings ++ x ∷ [];
      said = say-push [] read.earlier read.sayings read.said line x says (may x stands);
      draft = is ∙ ap (λ e. with_saying (number + 1) x e) read.draft ∙ sym (drafted-push read.sayings (number + 1) placed x);
    }

    some-saying : (x : Saying) → Says line x → HasSaying text
    some-saying x says = record { earlier = read.earlier; line = line; later = lines behind; there = here; saying = x; says = says }

    pub not-read : (fault : ReplayFault) (new : Drafted) → ReadsNext d (number + 1) line (Err fault) new → ParsesSchedule text (Err fault)
    not-read (BadLine k) new (is, bad) = (
      read.short,
      record {
        earlier = read.earlier;
        line = line;
        later = lines behind;
        there = here;
        number = is ∙ ap (λ n. n + 1) read.count;
        sayings = read.sayings;
        said = read.said;
        bad = λ x says follows. bad x says (subst (λ e. MayStand e x) (sym read.draft) follows);
      },
    )
    not-read OutOfMemory new (x, says) = (read.short, some-saying x says)
    not-read (NoSuch k) new reads = absurd reads
    not-read (Config f) new reads = absurd reads
    not-read TooLong new reads = absurd reads
