-- Contents that are heard, one after the other.
use Rattle.std.proofs.Common.{◌≡◌, ℕ, List, [], ◌∷◌, ◌++◌, Option, Some, None, Result, Ok, Err, refl, sym, ap, ◌∙◌, subst, append-nil, append_assoc}
use Rattle.std.proofs.lemmas.Grind.{flat_map-append}
use Rattle.kp_cluster.specs.Cluster.{Cluster, with_answered}
use Rattle.kp_embed.specs.Connecting.{Loses}
use Rattle.kp_embed.specs.Going.{Acts}
use Rattle.kp_embed.specs.Hearing.{GivesUp, Hears, HearsAll, HearsOne, HearsOver, Learns, Listens, Opens, answered, frames}
use Rattle.kp_embed.specs.Lines.{AtNode, line_at}
use Rattle.kp_embed.specs.Producer.{Producer, apart, with_cluster}
use Rattle.kp_embed.specs.declared.line.Line.{Line}
use Rattle.kp_embed.specs.declared.line.Question.{Question}
use Rattle.kp_embed.specs.declared.line.Question.TheVariants.{Metadata, ProducerId}
use Rattle.kp_embed.proofs.ActLemmas.{acts_same, acts_then}
use Rattle.kp_embed.proofs.LineLemmas.{put_back}
use Rattle.kp_hello.specs.Chart.{Charted, chart_given}
use Rattle.kp_hello.specs.Hello.{producer_id_given}
use Rattle.kp_hello.specs.declared.fault.HandshakeFault.{HandshakeFault}
use Rattle.kp_frames.specs.Stream.{frame}
use Rattle.kp_rules.specs.Calls.{Call}

abbrev pub with_held : List ℕ → Line → Line
with_held held line = record line { held = held }

-- All was heard until here, and lines are as they were.
pub record SoFar (now : ℕ) (old : Producer) (line : Line) (bytes : List ℕ) (new : Producer) (after : Line) : Type 0 where
  pub hears : HearsAll now old line bytes new after
  pub lines : new.lines ≡ old.lines
  pub still : new.is_closed ≡ old.is_closed

pub hears_none : (now : ℕ) (a : Producer) (line : Line) (bytes : List ℕ) → HearsAll now a line bytes a (with_held (line.held ++ bytes) line)
hears_none now a line bytes = record {
  contents = [];
  calls = [];
  acts = acts_same a;
  heard = Hears.none;
  first = refl;
  out = refl;
}

frames_more : (contents : List (List ℕ)) (content rest : List ℕ) → frames contents ++ (frame.spell content ++ rest) ≡ frames (contents ++ content ∷ []) ++ rest
frames_more contents content rest =
    sym (append_assoc (frames contents) (frame.spell content) rest)
    ∙ ap (λ (xs : List ℕ). (frames contents ++ xs) ++ rest) (sym (append-nil (frame.spell content)))
    ∙ ap (λ (xs : List ℕ). xs ++ rest) (sym (flat_map-append frame.spell contents (content ∷ [])))

pub hears_more : (now : ℕ) (a p b : Producer) (line before after : Line) (bytes content rest : List ℕ) → HearsAll now a line bytes p before → before.held ≡ frame.spell content ++ rest
    → HearsOver now p (with_held rest before) content b after → HearsAll now a line bytes b after
hears_more now a p b line before after bytes content rest h taken k = record {
  contents = h.contents ++ content ∷ [];
  calls = h.calls ++ k.calls;
  acts = acts_then a p b h.calls k.calls h.acts k.acts;
  heard = Hears.one_more p b h.contents content h.calls k.calls before.question after.question h.heard k.heard k.acts;
  first = h.first ∙ ap (λ (xs : List ℕ). frames h.contents ++ xs) (taken ∙ ap (λ (xs : List ℕ). frame.spell content ++ xs) (sym k.held)) ∙ frames_more h.contents content after.held;
  out = k.out ∙ h.out;
}

-- ---- apart from connections

acts_apart : (a b : Producer) (calls : List Call) → Acts a calls b → Acts (apart a) calls (apart b)
acts_apart a b calls h = record { config = h.config; names = h.names; core = h.core; taken = h.taken; next = h.next; counts = h.counts }

learns_apart : (now : ℕ) (chart : Result Charted HandshakeFault) (calls : List Call) (b : Producer) → Learns now chart calls b → Learns now chart calls (apart b)
learns_apart now (Ok chart) calls b h = h
learns_apart now (Err fault) calls b h = h

opens_apart : (now : ℕ) (id : Result ℕ HandshakeFault) (a : Producer) (calls : List Call) (b : Producer) → Opens now id a calls b → Opens now id (apart a) calls (apart b)
opens_apart now (Ok id) a calls b h = h
opens_apart now (Err fault) a calls b h = h

one_apart : (now : ℕ) (q x : Option Question) (content : List ℕ) (a b : Producer) (calls : List Call) (after : Option Question) → HearsOne now q x content a calls b after
    → HearsOne now q x content (apart a) calls (apart b) after
one_apart now q None content a b calls after h = h
one_apart now q (Some Metadata) content a b calls after h = (h.0, learns_apart now (chart_given a.names.topic content) calls b h.1)
one_apart now q (Some ProducerId) content a b calls after h = (h.0, opens_apart now (producer_id_given content) a calls b h.1)

all_apart : (now : ℕ) (a : Producer) (q : Option Question) (contents : List (List ℕ)) (calls : List Call) (b : Producer) (after : Option Question) → Hears now a q contents calls b after
    → Hears now (apart a) q contents calls (apart b) after
all_apart now a q contents calls b after Hears.none = Hears.none
all_apart now a q contents calls b after (Hears.one_more old new earlier content before more q1 q2 h k acts) =
    Hears.one_more (apart old) (apart new) earlier content before more q1 q2 (all_apart now a q earlier before old q1 h) (one_apart now q1 (answered q1 content) content old new more q2 k) (acts_apart old new more acts)

pub hears_apart : (now : ℕ) (a b : Producer) (line after : Line) (bytes : List ℕ) → HearsAll now a line bytes b after → HearsAll now (apart a) line bytes (apart b) after
hears_apart now a b line after bytes h = record {
  contents = h.contents;
  calls = h.calls;
  acts = acts_apart a b h.calls h.acts;
  heard = all_apart now a line.question h.contents h.calls b after.question h.heard;
  first = h.first;
  out = h.out;
}

-- what was heard of a line that was taken and put back
pub listens_made : (node now : ℕ) (a taken m b : Producer) (line after : Line) (bytes : List ℕ) → apart taken ≡ apart a → line_at node a.lines ≡ Some line → AtNode node None a.lines taken.lines
    → HearsAll now taken line bytes m after → m.lines ≡ taken.lines → apart m ≡ apart b → AtNode node (Some after) m.lines b.lines → Listens node now a bytes b
listens_made node now a taken m b line after bytes same was left h lines still put = record {
  line = line;
  after = after;
  is = was;
  hears = subst (λ (p : Producer). HearsAll now (apart a) line bytes p after) still (subst (λ (p : Producer). HearsAll now p line bytes (apart m) after) same (hears_apart now taken m line after bytes h));
  lines = put_back node None (Some after) a.lines taken.lines b.lines left (subst (λ (ls : List (Option Line)). AtNode node (Some after) ls b.lines) lines put);
}

-- the connection is given up once its line was taken and some of it was heard
pub given_up : (node now : ℕ) (a taken m b : Producer) → Acts a [] taken → AtNode node None a.lines taken.lines → ((calls : List Call) × Acts taken calls m) → m.lines ≡ taken.lines → Loses node now m b
    → GivesUp node now a b
given_up node now a taken m b idle left heard lines loses = record {
  calls = heard.0;
  middle = m;
  heard = acts_then a taken m [] heard.0 idle heard.1;
  lost = loses.acts;
  lines = put_back node None None a.lines taken.lines b.lines left (subst (λ (ls : List (Option Line)). AtNode node None ls b.lines) lines loses.lines);
}

-- ---- once the node's failures are forgotten

learns_answered : (node now : ℕ) (given : Result Charted HandshakeFault) (calls : List Call) (m : Producer) → Learns now given calls m → Learns now given calls (with_cluster (with_answered node m.cluster) m)
learns_answered node now (Ok chart) calls m h = h
learns_answered node now (Err fault) calls m h = h

opens_answered : (node now : ℕ) (given : Result ℕ HandshakeFault) (a : Producer) (calls : List Call) (m : Producer) → Opens now given a calls m → Opens now given a calls (with_cluster (with_answered node m.cluster) m)
opens_answered node now (Ok id) a calls m h = h
opens_answered node now (Err fault) a calls m h = h

one_answered : (node now : ℕ) (q x : Option Question) (content : List ℕ) (a m : Producer) (calls : List Call) (after : Option Question) → HearsOne now q x content a calls m after
    → HearsOne now q x content a calls (with_cluster (with_answered node m.cluster) m) after
one_answered node now q None content a m calls after h = h
one_answered node now q (Some Metadata) content a m calls after h = (h.0, learns_answered node now (chart_given a.names.topic content) calls m h.1)
one_answered node now q (Some ProducerId) content a m calls after h = (h.0, opens_answered node now (producer_id_given content) a calls m h.1)

pub hears_answered : (node now : ℕ) (a m : Producer) (line after : Line) (content : List ℕ) (c : Cluster) → c ≡ with_answered node m.cluster → HearsOver now a line content m after
    → HearsOver now a line content (with_cluster c m) after
hears_answered node now a m line after content c is h = rw is (record {
  calls = h.calls;
  acts = record { config = h.acts.config; names = h.acts.names; core = h.acts.core; taken = h.acts.taken; next = h.acts.next; counts = h.acts.counts };
  heard = one_answered node now line.question (answered line.question content) content a m h.calls after.question h.heard;
  held = h.held;
  out = h.out;
})
