-- The messages that what signs was given, where it tells them.
use Rattle.std.specs.Prelude.{◌≡◌, ◌⊎◌, ◌++◌, ◌∷◌, [], ℕ, List, Option, Result, Ok, Err}
use Rattle.std.specs.Option.{option_map}
use Rattle.dsec_rrsig.specs.declared.error.SignError.{SignError}
use Rattle.dsec_rrsig.specs.declared.error.SignError.TheVariants as sign

-- those so far, and one more
abbrev pub given_more : Option (List (List ℕ)) → List ℕ → Option (List (List ℕ))
given_more told message = option_map (λ all. all ++ message ∷ []) told

-- a message is told that was given, also where the signer failed; where memory was wanted it may be left out
abbrev pub NotesError : List ℕ → Option (List (List ℕ)) → Option (List (List ℕ)) → SignError → Type 0
NotesError message before now sign.Failed = now ≡ given_more before message
NotesError message before now sign.NoMemory = (now ≡ before) ⊎ (now ≡ given_more before message)

-- and where there is a signature
abbrev pub NotesSigning : {T : Type 0} → List ℕ → Option (List (List ℕ)) → Option (List (List ℕ)) → Result T SignError → Type 0
NotesSigning message before now (Ok value) = now ≡ given_more before message
NotesSigning message before now (Err error) = NotesError message before now error
