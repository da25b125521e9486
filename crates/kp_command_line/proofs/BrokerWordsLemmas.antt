-- A word that begins with `localhost:` writes no socket address.
use Rattle.std.proofs.Common.{◌≡◌, ℕ, List, [], ◌∷◌, ◌++◌, get_or, codes, decimal, refl, ap, sym, ◌∙◌, arith, inl, inr}
use Rattle.std.proofs.lemmas.Fmt.{decimal_is_IsNumeral}
use Rattle.std.proofs.lemmas.List.{append_cancel_left}
use Rattle.std.proofs.lemmas.Str.Parse.{digit_from_value}
use Rattle.std.specs.Int.{IsInRange}
use Rattle.std.specs.Str.Parse.{IsNumeral}
use Rattle.std.specs.Net.Grammar.{IsSocketText}
use Rattle.std.specs.Net.Socket.{v4_port}
use Rattle.std.specs.declared.net.socket_addr.SocketAddr.{SocketAddr}
use Rattle.std.specs.declared.net.socket_addr.SocketAddr.TheVariants.{V4, V6}
use Rattle.kp_command_line.specs.BrokerWords.{NamesBroker, WritesPort}

-- what a numeral begins begins with a digit
numeral_begins : (digits rest tail : List ℕ) (first : ℕ) → IsNumeral 10 digits → first ∷ tail ≡ digits ++ rest → IsInRange 48 57 first
numeral_begins [] rest tail first h same = absurd (omega (arith, h.0))
numeral_begins (d ∷ digits) rest tail first h same =
    rw (ap (λ (text : List ℕ). get_or text 0 0) same) (digit_from_value d h.1.0)

-- what follows the first of eight texts
behind : (a b c d e f g h : List ℕ) → a ++ b ++ c ++ d ++ e ++ f ++ g ++ h ≡ a ++ (b ++ c ++ d ++ e ++ f ++ g ++ h)
behind [] b c d e f g h = refl
behind (x ∷ a) b c d e f g h = ap (λ (text : List ℕ). x ∷ text) (behind a b c d e f g h)

not_an_address : (tail : List ℕ) (address : SocketAddr) → ¬ (IsSocketText (codes "localhost:" ++ tail) address)
not_an_address tail (V4 a) (ip, port, spelled, dotted, written) =
    let first = decimal dotted.a in
    let b = decimal dotted.b in
    let c = decimal dotted.c in
    let d = decimal dotted.d in
    let rest = codes "." ++ b ++ codes "." ++ c ++ codes "." ++ d ++ port in
    let whole = spelled ∙ ap (λ (text : List ℕ). text ++ port) dotted.spelled ∙ behind first (codes ".") b (codes ".") c (codes ".") d port in
    let numeral = decimal_is_IsNumeral dotted.a (omega (arith, dotted.fit.0)) in
    let digit = numeral_begins first rest (codes "ocalhost:" ++ tail) 108 numeral.0 whole in
    absurd (omega (arith, digit.1))
not_an_address tail (V6 a) text =
    absurd (omega (arith, ap (λ (bytes : List ℕ). get_or bytes 0 0) text.spelled))

-- where the rest writes no port, the word names nothing
pub names_none : (word digits : List ℕ) (address : SocketAddr) → word ≡ codes "localhost:" ++ digits → ((port : ℕ) → ¬ (WritesPort digits port)) → ¬ (NamesBroker word address)
names_none word digits address begun none (inl local) =
    let same : digits ≡ local.digits = append_cancel_left (codes "localhost:") digits local.digits (sym begun ∙ local.spelled) in
    none (v4_port local.local) (rw same local.port)
names_none word digits address begun none (inr text) =
    not_an_address digits address (rw (sym begun) text)
