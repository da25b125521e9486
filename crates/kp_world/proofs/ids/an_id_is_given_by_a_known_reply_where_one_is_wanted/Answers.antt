use Rattle.kp_world.proofs.KeptLaws.{goes_on_under, ids_are_kept}
use Rattle.kp_world.proofs.ids.an_id_is_given_by_a_known_reply_where_one_is_wanted.Goals as goal

pub returns : goal.returns
returns c = record { given = goes_on_under; kept = ids_are_kept }
