-- Polls of what publishes.
use Rattle.std.specs.Prelude.{◌≡◌, ℕ, List, [], ◌++◌, Bool, Option, is_some, true}
use Rattle.kp_publish.specs.Files.{Shows}
use Rattle.kp_publish.specs.Input.{rest_of}
use Rattle.kp_publish.specs.declared.files.Files.{Files}
use Rattle.kp_publish.specs.declared.input.Input.{Input}
use Rattle.kp_send.specs.Sender.{Account, IsFresh, is_done}
use Rattle.kp_send.specs.Streaming.{Goes}
use Rattle.kp_send.specs.Texts.{IsEmpty}
use Rattle.kp_send.specs.declared.form.Form.{Form}
use Rattle.kp_send.specs.declared.telling.Tellings.{Tellings}
use Rattle.kp_send.specs.declared.texts.Texts.{Texts}

-- calls on the sender, by which some bytes of the input were taken
abbrev pub GoesOn : Account → Texts → Account → Texts → Type 0
GoesOn a texts b after = (taken : List ℕ) × Goes a texts taken b after

-- The bytes that were taken by such calls are the first of what was here and not taken, and of what came behind it; the others are here.
pub record Draws (came : List ℕ) (i : Input) (a : Account) (texts : Texts) (j : Input) (b : Account) (after : Texts) : Type 0 where
  pub taken : List ℕ
  pub goes : Goes a texts taken b after
  pub front : rest_of i ++ came ≡ taken ++ rest_of j

-- the same, by which nothing was told
abbrev pub DrawsSilently : List ℕ → Input → Account → Input → Account → Type 0
DrawsSilently came i a j b = (texts : Texts) → Draws came i a texts j b texts

module _ {F : Type 0} (contents : F → Option (List ℕ)) where
  -- A poll: the files have gained the texts of its calls.
  pub record Turns (a : Account) (files : Files F) (taken : List ℕ) (b : Account) (files' : Files F) : Type 0 where
    pub nothing : Texts
    pub texts : Texts
    pub empty : IsEmpty nothing
    pub wanted : nothing.places ≡ is_some files.offsets
    pub goes : Goes a nothing taken b texts
    pub shows : Shows contents files texts files'

  -- Polls, one after the other.
  pub data Polls (a : Account) (files : Files F) : (taken : List ℕ) → Account → Files F → Type 0 where
    none : Polls a files [] a files
    one_more : (taken more : List ℕ) (b c : Account) (between last : Files F) → Polls a files taken b between → Turns b between more c last
        → Polls a files (taken ++ more) c last

  -- Each line was told of, and so many ended in which way.
  pub record IsPublished (a : Account) (files : Files F) (tellings : Tellings) : Type 0 where
    pub taken : List ℕ
    pub last : Account
    pub files' : Files F
    pub polls : Polls a files taken last files'
    pub done : is_done last ≡ true
    pub counted : last.tellings ≡ tellings

  -- The same from a new sender on.
  pub record IsPublishedAnew (form : Form) (delimiter : ℕ) (files : Files F) (tellings : Tellings) : Type 0 where
    pub keeps : Bool
    pub first : Account
    pub fresh : IsFresh form delimiter keeps first
    pub published : IsPublished first files tellings
