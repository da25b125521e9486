-- What goes over one connection of a producer, from when it was made on.
use Rattle.std.specs.Prelude.{◌≡◌, ℕ, List, [], ◌∷◌, ◌++◌, Option, Some, Ok}
use Rattle.std.specs.List.{concat}
use Rattle.kp_embed.specs.Asking.{HasNone}
use Rattle.kp_embed.specs.Connecting.{Connects}
use Rattle.kp_embed.specs.Going.{Acts}
use Rattle.kp_embed.specs.Hearing.{Listens, frames}
use Rattle.kp_embed.specs.Lines.{line_at}
use Rattle.kp_embed.specs.Producer.{Producer}
use Rattle.kp_embed.specs.Taking.{CarriesOut}
use Rattle.kp_embed.specs.declared.line.Line.{Line}
use Rattle.kp_hello.specs.Asking.{frame_of, metadata_request, producer_id_request}
use Rattle.kp_rules.specs.declared.names.Names.{Names}
use Rattle.kp_rules.specs.declared.outgoing.Outgoing.{Outgoing}
use Rattle.kp_rules.specs.Calls.{Call, Request}

-- ---- what is asked over it

-- By these calls on the core for requests to the node these frames are asked, in their order: Metadata's, that for a producer
-- id, and each request of the core.
pub data Asked (names : Names) (node : ℕ) : List Call → List (List ℕ) → Type 0 where
  none : Asked names node [] []
  metadata : (calls : List Call) (asked : List (List ℕ)) → Asked names node calls asked → Asked names node calls (asked ++ frame_of (metadata_request names) ∷ [])
  producer_id : (calls : List Call) (asked : List (List ℕ)) → Asked names node calls asked → Asked names node calls (asked ++ frame_of (producer_id_request names) ∷ [])
  request : (calls : List Call) (asked : List (List ℕ)) (now : ℕ) (o : Outgoing) → Asked names node calls asked
      → Asked names node (calls ++ Request node now (Ok (Some o)) ∷ []) (asked ++ o.bytes ∷ [])
  nothing : (calls more : List Call) (asked : List (List ℕ)) (now : ℕ) → Asked names node calls asked → HasNone node now more → Asked names node (calls ++ more) asked

-- ---- a connection

-- From the making of a connection to the node on: the bytes that were taken and fed, the contents that were heard, and the calls
-- on the core by which bytes were asked for; and meanwhile calls that leave its line as it was.
pub data Over (node : ℕ) : (taken fed : List ℕ) → (heard : List (List ℕ)) → (mine : List Call) → Producer → Type 0 where
  connected : (now : ℕ) (p q : Producer) → Connects node now p q → Over node [] [] [] [] q
  took : (now : ℕ) (p q : Producer) (taken fed bytes : List ℕ) (heard : List (List ℕ)) (mine : List Call) → Over node taken fed heard mine p → (c : CarriesOut node now p bytes q)
      → Over node (taken ++ bytes) fed heard (mine ++ c.asks.calls) q
  listened : (now : ℕ) (p q : Producer) (taken fed bytes : List ℕ) (heard : List (List ℕ)) (mine : List Call) → Over node taken fed heard mine p → (l : Listens node now p bytes q)
      → Over node taken (fed ++ bytes) (heard ++ l.hears.contents) mine q
  meanwhile : (p q : Producer) (taken fed : List ℕ) (heard : List (List ℕ)) (mine calls : List Call) → Over node taken fed heard mine p → Acts p calls q
      → line_at node q.lines ≡ line_at node p.lines → Over node taken fed heard mine q

-- ---- its bytes

-- The bytes that were taken, and behind them those that wait, are the frames of all that was asked over it, in order; the frames
-- that were heard, and behind them the bytes that are held, are all that were fed.
pub record Carries (node : ℕ) (taken fed : List ℕ) (heard : List (List ℕ)) (mine : List Call) (q : Producer) : Type 0 where
  pub line : Line
  pub is : line_at node q.lines ≡ Some line
  pub asked : List (List ℕ)
  pub by : Asked q.names node mine asked
  pub written : taken ++ line.out ≡ concat asked
  pub read : frames heard ++ line.held ≡ fed
