-- What a stream over memory tells, one call after another.
use Rattle.std.proofs.Common.{List, [], ◌++◌, map, refl, sym, ap, ◌∙◌, append_assoc, append-nil}
use Rattle.std.proofs.lemmas.List.Concat.{flat_map-append}
use Rattle.std.proofs.lemmas.List.{map-append}
use Rattle.kp_connection.specs.Answers.{Answer, came, gone, came_by, gone_by}
use Rattle.kp_connection.specs.Script.{Played, Tells, kind}

pub tells_in_order : (a : Played) (xs : List Answer) (b : Played) (ys : List Answer) (c : Played) → Tells a xs b → Tells b ys c → Tells a (xs ++ ys) c
tells_in_order a xs b ys c p q =
    record {
      given = rw (flat_map-append came_by xs ys, append_assoc) (p.given ∙ ap (λ zs. came xs ++ zs) q.given);
      taken = rw (flat_map-append gone_by xs ys, ← append_assoc) (q.taken ∙ ap (λ zs. zs ++ gone ys) p.taken);
      met = rw (map-append kind xs ys, ← append_assoc) (q.met ∙ ap (λ zs. zs ++ map kind ys) p.met);
    }

pub tells_nothing : (s : Played) → Tells s [] s
tells_nothing s = record { given = refl; taken = sym (append-nil s.output); met = sym (append-nil s.met) }
