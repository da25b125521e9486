-- Whose reports are told: those of a service's senders, with what became of each record.
use Rattle.std.specs.Prelude.{◌≡◌, List, ◌++◌, map}
use Rattle.std.specs.List.{flat_map}
use Rattle.std.specs.List.Sorted.{IsPermutation}
use Rattle.std.specs.declared.net.socket_addr.SocketAddr.{SocketAddr}
use Rattle.kp_client.specs.Ends.{HasEnded}
use Rattle.kp_client.specs.Left.{parts_in, reports_left, IsSettled}
use Rattle.kp_client.specs.Brokers.{IsAt}
use Rattle.kp_client.specs.Opening.{Begins}
use Rattle.kp_client.specs.Service.{core_of, intake_of}
use Rattle.kp_client.specs.declared.left.Ended.{Ended}
use Rattle.kp_client.specs.declared.left.Left.{Left}
use Rattle.kp_client.specs.declared.service.Service.{Service}
use Rattle.kp_lanes.specs.Sender.{all_got, finished_number}
use Rattle.kp_lanes.specs.declared.sender.Finished.{Finished}
use Rattle.kp_rules.specs.declared.outcome.Report.{Report}
use Rattle.kp_settings.specs.declared.settings.Settings.{Settings}
use Rattle.kp_run.specs.Gathered.{account_in, account_of}
use Rattle.kp_run.specs.declared.sender_thread.Job.{Job}

-- The service was settled with the senders of these jobs; the reports are those that they received and those that come
-- back, in some order.
pub record AreTheirs (ended : Ended) (jobs : List Job) (reports : List Report) : Type 0 where
  pub finished : List Finished
  pub accounts : map account_of finished ≡ map account_in jobs
  pub left : Left
  pub settled : IsSettled (parts_in ended) finished left
  pub all : IsPermutation (flat_map all_got finished
      ++ flat_map (reports_left left) (map finished_number finished)) reports

-- They are those of a service that was opened with these settings, over the broker at this address, and has run to its end.
pub record AreOfService (address : SocketAddr) (settings : Settings) (reports : List Report) : Type 0 where
  pub service : Service
  pub begins : Begins (IsAt address settings) settings service
  pub ended : Ended
  pub has_ended : HasEnded (core_of service) (intake_of service) ended
  pub jobs : List Job
  pub theirs : AreTheirs ended jobs reports
