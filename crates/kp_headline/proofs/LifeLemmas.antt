-- The calls among moves are a life of the core, and there is no other with these calls.
use Rattle.std.proofs.Common.{◌≡◌, List, [], ◌∷◌, ◌++◌, Some, None, refl, sym, ap, ◌∙◌, subst, append_assoc}
use Rattle.std.specs.Prelude.{Ok, Err}
use Rattle.std.proofs.lemmas.List.{append-nil}
use Rattle.kp_accum.specs.declared.fault.AppendFault.TheVariants as append
use Rattle.kp_rules.specs.declared.fault.CoreFault.TheVariants as fault
use Rattle.kp_rules.specs.Calls.{Call, Step, Life, Lives, packets_by, life_of, followed_by}
use Rattle.kp_rules.specs.Calls as call
use Rattle.kp_rules.specs.Records.{Core}
use Rattle.kp_rules.specs.Requesting.{Packet}
use Rattle.kp_headline.specs.Laws.{calls_in, IsLife, LeadTo}
use Rattle.kp_headline.specs.Moves.{Move, Accepting, Calling, Meeting, Drawing, Others, with_packets, called, after, led, AreMoves}
use Rattle.kp_headline.specs.Outside.{Outside, State}

more_packets : (xs : List Packet) (o : Outside) → (with_packets xs o).packets ≡ o.packets ++ xs
more_packets [] o = sym (append-nil o.packets)
more_packets (x ∷ xs) o = more_packets xs _ ∙ append_assoc o.packets (x ∷ []) xs

packets_after : (s : Core) (c : Call) (o : Outside) → (called s c o).packets ≡ o.packets ++ packets_by s c
packets_after s (call.Append i (Ok done)) o = sym (append-nil o.packets)
packets_after s (call.Append i (Err refusal)) o = sym (append-nil o.packets)
packets_after s (call.Request node now (Ok answer)) o = more_packets (packets_by s (call.Request node now (Ok answer))) o
packets_after s (call.Request node now (Err refusal)) o = sym (append-nil o.packets)
packets_after s (call.Reply now content answer) o = sym (append-nil o.packets)
packets_after s (call.Tick node now answer) o = sym (append-nil o.packets)
packets_after s (call.Disconnect node now) o = sym (append-nil o.packets)
packets_after s (call.Lead p leader now) o = sym (append-nil o.packets)
packets_after s call.Close o = sym (append-nil o.packets)
packets_after s call.Flush o = sym (append-nil o.packets)
packets_after s (call.End reports) o = sym (append-nil o.packets)
packets_after s (call.Fetch sender (Some report)) o = sym (append-nil o.packets)
packets_after s (call.Fetch sender None) o = sym (append-nil o.packets)

-- what is found of the moves
record Found (a : State) (ms : List Move) : Type 0 where
  life : Life
  lives : Lives a.core (calls_in ms) life (led a ms).core
  told : (led a ms).outside.told ≡ a.outside.told ++ life.told
  packets : (led a ms).outside.packets ≡ a.outside.packets ++ life.packets

found : (a : State) (ms : List Move) → AreMoves a ms → Found a ms
unfolding Lives
found a [] are = record { life = record { appended = []; told = []; packets = [] }; lives = (refl, refl); told = sym (append-nil a.outside.told); packets = sym (append-nil a.outside.packets) }
found a (Calling c t ∷ ms) are =
    let rest : Found (after (Calling c t) a) ms = found (after (Calling c t) a) ms are.1 in
    record {
      life = followed_by (life_of a.core c) rest.life;
      lives = (t, rest.life, are.0, rest.lives, refl);
      told = rest.told ∙ append_assoc a.outside.told _ rest.life.told;
      packets = rest.packets ∙ ap (λ (xs : List Packet). xs ++ rest.life.packets) (packets_after a.core c a.outside) ∙ append_assoc a.outside.packets (packets_by a.core c) rest.life.packets;
    }
found a (Accepting i ∷ ms) are = let rest : Found (after (Accepting i) a) ms = found (after (Accepting i) a) ms are.1 in record { life = rest.life; lives = rest.lives; told = rest.told; packets = rest.packets }
found a (Meeting k x answer log ∷ ms) are = let rest : Found (after (Meeting k x answer log) a) ms = found (after (Meeting k x answer log) a) ms are.1 in record { life = rest.life; lives = rest.lives; told = rest.told; packets = rest.packets }
found a (Drawing k ids reply ∷ ms) are = let rest : Found (after (Drawing k ids reply) a) ms = found (after (Drawing k ids reply) a) ms are.1 in record { life = rest.life; lives = rest.lives; told = rest.told; packets = rest.packets }
found a (Others p records ∷ ms) are = let rest : Found (after (Others p records) a) ms = found (after (Others p records) a) ms are.1 in record { life = rest.life; lives = rest.lives; told = rest.told; packets = rest.packets }

pub is_life : (a : State) (ms : List Move) → AreMoves a ms → IsLife a ms
is_life a ms are = let f : Found a ms = found a ms are in (f.life, (led a ms).core, f.lives, record { core = refl; told = f.told; packets = f.packets })

-- ---- calls with their answers lead to one core

one_step : (s t u : Core) (c : Call) → Step s c t → Step s c u → t ≡ u
one_step s t u (call.Append i (Ok done)) x y = x.1 ∙ sym y.1
one_step s t u (call.Append i (Err append.BufferFull)) x y = x.1 ∙ sym y.1
one_step s t u (call.Append i (Err append.OutOfMemory)) x y = x.1 ∙ sym y.1
one_step s t u (call.Request node now (Ok answer)) x y = x.1 ∙ sym y.1
one_step s t u (call.Request node now (Err fault.OutOfMemory)) x y = x.1 ∙ sym y.1
one_step s t u (call.Request node now (Err fault.Ended)) x y = x.1 ∙ sym y.1
one_step s t u (call.Request node now (Err fault.CorrelationSpent)) x y = x.1 ∙ sym y.1
one_step s t u (call.Request node now (Err (fault.ReplyFault f))) x y = x.1 ∙ sym y.1
one_step s t u (call.Reply now content (Ok answer)) x y = x.1 ∙ sym y.1
one_step s t u (call.Reply now content (Err fault.OutOfMemory)) x y = x.1 ∙ sym y.1
one_step s t u (call.Reply now content (Err fault.Ended)) x y = x.1 ∙ sym y.1
one_step s t u (call.Reply now content (Err fault.CorrelationSpent)) x y = x.1 ∙ sym y.1
one_step s t u (call.Reply now content (Err (fault.ReplyFault f))) x y = x.1 ∙ sym y.1
one_step s t u (call.Tick node now answer) x y = x.1 ∙ sym y.1
one_step s t u (call.Disconnect node now) x y = x ∙ sym y
one_step s t u (call.Lead p leader now) x y = x ∙ sym y
one_step s t u call.Close x y = x ∙ sym y
one_step s t u call.Flush x y = x ∙ sym y
one_step s t u (call.End reports) x y = x.1 ∙ sym y.1
one_step s t u (call.Fetch sender answer) x y = x.1 ∙ sym y.1

one_life : (s : Core) (calls : List Call) (life other : Life) (t u : Core) → Lives s calls life t → Lives s calls other u → (t ≡ u) × (life ≡ other)
unfolding Lives
one_life s [] life other t u x y = (x.1 ∙ sym y.1, x.0 ∙ sym y.0)
one_life s (c ∷ calls) life other t u x y =
    let same : x.0 ≡ y.0 = one_step s x.0 y.0 c x.2 y.2 in
    let rest = one_life x.0 calls x.1 y.1 t u x.3 (subst (λ (m : Core). Lives m calls y.1 u) (sym same) y.3) in
    (rest.0, x.4 ∙ ap (followed_by (life_of s c)) rest.1 ∙ sym y.4)

pub leads_to : (a : State) (ms : List Move) (life : Life) (t : Core) → AreMoves a ms → Lives a.core (calls_in ms) life t → LeadTo a ms life t
leads_to a ms life t are lives =
    let f : Found a ms = found a ms are in
    let one = one_life a.core (calls_in ms) f.life life (led a ms).core t f.lives lives in
    record {
      core = one.0;
      told = f.told ∙ ap (λ (l : Life). a.outside.told ++ l.told) one.1;
      packets = f.packets ∙ ap (λ (l : Life). a.outside.packets ++ l.packets) one.1;
    }
