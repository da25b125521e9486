-- Where it is written what became of lines.
use Rattle.std.specs.Prelude.{◌≡◌, ℕ, List, Option, Some, None}
use Rattle.std.specs.Io.KnownBytes.{Appends}
use Rattle.kp_publish.specs.declared.files.Files.{Files}
use Rattle.kp_send.specs.declared.texts.Texts.{Texts}

module _ {F : Type 0} (contents : F → Option (List ℕ)) where
  -- A file that is wanted has gained the text.
  abbrev pub Adds : Option F → List ℕ → Option F → Type 0
  Adds (Some old) text (Some new) = Appends (contents old) (contents new) text
  Adds None text new = new ≡ None
  Adds (Some old) text None = ⊥

  -- Each has gained its own.
  pub record Shows (old : Files F) (texts : Texts) (new : Files F) : Type 0 where
    pub offsets : Adds old.offsets texts.offsets.items new.offsets
    pub undelivered : Adds old.undelivered texts.undelivered.items new.undelivered
    pub unknown : Adds old.unknown texts.unknown.items new.unknown
