-- What a log of a history does with a batch that was handed over is an honest broker's step.
use Rattle.std.proofs.Common.{ℤ, List, refl, sym, subst, inl, Contains, Ok}
use Rattle.kp_log.specs.declared.whim.Whim.{Whim}
use Rattle.kp_log.specs.declared.whim.Whim.TheVariants.{Refuse, Late}
use Rattle.kp_log.specs.Log.{Log}
use Rattle.kp_log.specs.SequenceRule.{judged, offered, offered_then}
use Rattle.kp_log.specs.History.{Sent, History, arrived}
use Rattle.kp_log.specs.KeptBatches.{IsHistoryOf}
use Rattle.kp_log.specs.BrokerStep.{Answered, BrokerStep, offered_to}
use Rattle.kp_log.specs.HandedOver.{AreInSequence, CameBy, IsHonest}
use Rattle.kp_log.proofs.LoopbackLemmas.{some_of, loopback_step, late_step}
use Rattle.kp_log.proofs.KeepingLemmas.{came_offered}
use Rattle.kp_log.proofs.TieLemmas.{AnswersAlike, alike}

tied : (handed : List Sent) (h : History) (log : Log) (b : Sent) (offset leader_epoch : ℤ) → AreInSequence handed → CameBy handed h → Contains handed b
    → IsHistoryOf h log → AnswersAlike (offered_to h b) (judged log (arrived offset leader_epoch b))
tied handed h log b offset leader_epoch in_sequence came at of = alike h log offset leader_epoch b of came.whole (some_of handed b in_sequence at)

pub honest_offer : (handed : List Sent) (h : History) (log : Log) (b : Sent) (offset leader_epoch : ℤ) → AreInSequence handed → CameBy handed h → Contains handed b
    → IsHistoryOf h log → IsHonest handed h b (offered log (Ok (arrived offset leader_epoch b)))
honest_offer handed h log b offset leader_epoch in_sequence came at of =
    let same : AnswersAlike (offered_to h b) (judged log (arrived offset leader_epoch b)) = tied handed h log b offset leader_epoch in_sequence came at of in
    record {
      after = (offered_to h b).history;
      honest = subst (λ (a : Answered). BrokerStep h b a (offered_to h b).history) (sym same.answer) (loopback_step handed h b in_sequence came at);
      holds = same.history;
      came = came_offered handed h b in_sequence came at;
    }

pub honest_offer_then : (handed : List Sent) (h : History) (log : Log) (b : Sent) (offset leader_epoch : ℤ) (whim : Whim) → AreInSequence handed → CameBy handed h
    → Contains handed b → IsHistoryOf h log → IsHonest handed h b (offered_then log whim (Ok (arrived offset leader_epoch b)))
honest_offer_then handed h log b offset leader_epoch (Refuse code) in_sequence came at of = record {
  after = h;
  honest = record { change = inl refl; stands = λ e. absurd (code.is_error.error e); is_old = λ e. absurd (code.is_error.no_duplicate e) };
  holds = of;
  came = came;
}
honest_offer_then handed h log b offset leader_epoch (Late code) in_sequence came at of = record {
  after = (offered_to h b).history;
  honest = late_step h b code.number code.is_error.error code.is_error.no_duplicate;
  holds = (tied handed h log b offset leader_epoch in_sequence came at of).history;
  came = came_offered handed h b in_sequence came at;
}
