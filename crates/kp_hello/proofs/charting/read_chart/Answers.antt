use Rattle.std.specs.Prelude.{IsOk}
use Rattle.kp_wire.specs.Fields.{int32}
use Rattle.kp_frames.specs.declared.api.Api.TheVariants as api
use Rattle.kp_frames.specs.Response.{response_at}
use Rattle.kp_hello.specs.Chart.{chart_given, chart_judged, seen}
use Rattle.kp_hello.proofs.GivenLemmas.{gives_judged, gives_refused}
use Rattle.kp_hello.proofs.charting.read_chart.Goals as goal

pub returns-in_err-response : goal.returns-in_err-response
unfolding chart_given
returns-in_err-response c =
    gives_refused seen (IsOk (int32.read c.args.content.now)) c.in_err-response.field-0.0 (response_at api.Metadata c.args.content.now) (chart_judged c.args.topic.now) _ c.in_err-response.ensures.exact c.from_residual.ensures.1

pub returns : goal.returns
unfolding chart_given
returns c =
    gives_judged seen c.in_ok-response.response (response_at api.Metadata c.args.content.now) (chart_judged c.args.topic.now) _ c.in_ok-response.ensures.exact c.judge_chart.ensures
