-- A connection since it was made, stretch by stretch.
use Rattle.std.proofs.Common.{ℕ, List, [], ◌++◌, sym, ap, subst, ◌∙◌}
use Rattle.std.proofs.lemmas.List.Concat.{flat_map-append}
use Rattle.kp_connection.specs.Answers.{Answer, gone, gone_by}
use Rattle.kp_connection.specs.Wire.{Told}
use Rattle.kp_connection.proofs.WireLemmas.{through}
use Rattle.kp_drive.specs.Connection.{Carries, Since}
use Rattle.kp_drive.specs.declared.pipe.Pipe.{Pipe}
use Rattle.kp_embed.specs.Producer.{Producer}

module _ {S : Type 0} (answers : Told S) (nothing : (s : S) → answers s [] s) (in_order : (a : S) (xs : List Answer) (b : S) (ys : List Answer) (c : S) → answers a xs b → answers b ys c → answers a (xs ++ ys) c) (node : ℕ) (first : S) where
  pub since_carries : (xs : List Answer) (taken : List ℕ) (q : Producer) (b : Pipe S) → Since answers node first xs taken q b → Carries answers first xs taken b
  since_carries xs taken q b (Since.connected now p r c stream none connects) = record {
    told = subst (λ (s : S). answers first [] s) (sym stream) (nothing first);
    written = none;
  }
  since_carries xs taken q b (Since.served now p r a c ys before rest s) =
      let h = since_carries ys before p a rest in record {
        told = in_order first ys a.stream s.xs c.stream h.told s.told;
        written = ap (λ (zs : List ℕ). zs ++ c.unwritten) (flat_map-append gone_by ys s.xs)
            ∙ through (gone ys) (gone s.xs) [] a.unwritten c.unwritten before s.taken h.written s.written;
      }
  since_carries xs taken q b (Since.meanwhile p r c ys before calls rest acts may) = since_carries ys before p c rest
