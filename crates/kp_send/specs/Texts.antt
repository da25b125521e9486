-- What is to be written of lines.
use Rattle.std.specs.Prelude.{◌≡◌, ℕ, Bool, if◌then◌else◌, List, [], ◌∷◌, ◌++◌, Option, Some, None}
use Rattle.std.specs.List.{flat_map}
use Rattle.kp_send.specs.Telling.{counted, keep_of, out_text, said_text}
use Rattle.kp_send.specs.declared.telling.Keep.{Keep}
use Rattle.kp_send.specs.declared.telling.Keep.TheVariants.{Undelivered, Unknown}
use Rattle.kp_send.specs.declared.telling.Tellings.{Tellings}
use Rattle.kp_send.specs.declared.texts.Texts.{Texts}
use Rattle.kp_send.specs.declared.told.Told.{Told}

pub record IsEmpty (t : Texts) : Type 0 where
  pub offsets : t.offsets.items ≡ []
  pub said : t.said.items ≡ []
  pub undelivered : t.undelivered.items ≡ []
  pub unknown : t.unknown.items ≡ []

-- a line as it came, with its delimiter, where its bytes were kept
abbrev pub line_text : (delimiter : ℕ) → Option (List ℕ) → List ℕ
line_text delimiter (Some bytes) = bytes ++ delimiter ∷ []
line_text delimiter None = []

abbrev pub where_undelivered : Option Keep → List ℕ → List ℕ
where_undelivered (Some Undelivered) text = text
where_undelivered (Some Unknown) text = []
where_undelivered None text = []

abbrev pub where_unknown : Option Keep → List ℕ → List ℕ
where_unknown (Some Undelivered) text = []
where_unknown (Some Unknown) text = text
where_unknown None text = []

-- a line that can be sent again
abbrev pub undelivered_text : (delimiter : ℕ) → Told → List ℕ
undelivered_text delimiter told = where_undelivered (keep_of told.fate) (line_text delimiter told.bytes)

-- a line that may stand in the log or not
abbrev pub unknown_text : (delimiter : ℕ) → Told → List ℕ
unknown_text delimiter told = where_unknown (keep_of told.fate) (line_text delimiter told.bytes)

-- where a line stands that was delivered, if that is wanted
abbrev pub offset_text : (places : Bool) → Told → List ℕ
offset_text places told = if places then out_text told else []

-- how many ended in which way, when these were told too
abbrev pub counted_all : Tellings → List Told → Tellings
counted_all t [] = t
counted_all t (told ∷ more) = counted_all (counted t told.fate) more

-- why those were not delivered of which it is said
abbrev pub said_texts : Tellings → List Told → List ℕ
said_texts t [] = []
said_texts t (told ∷ more) = said_text t told ++ said_texts (counted t told.fate) more

-- The texts of these lines stand behind what was there, in the order in which they were told.
pub record Writes (delimiter : ℕ) (t : Tellings) (told : List Told) (old new : Texts) : Type 0 where
  pub places : new.places ≡ old.places
  pub offsets : new.offsets.items ≡ old.offsets.items ++ flat_map (offset_text old.places) told
  pub said : new.said.items ≡ old.said.items ++ said_texts t told
  pub undelivered : new.undelivered.items ≡ old.undelivered.items ++ flat_map (undelivered_text delimiter) told
  pub unknown : new.unknown.items ≡ old.unknown.items ++ flat_map (unknown_text delimiter) told
