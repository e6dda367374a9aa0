-- Names that were read from messages.
use Rattle.std.proofs.Common.{◌≡◌, ℕ, ◌≤◌, List, [], length, Option, Some, None, Result, Ok, Err, refl, sym, ap, ◌∙◌, subst}
use Rattle.std.specs.Prelude.{IfOk}
use Rattle.std.specs.Option.{option_map}
use Rattle.std.proofs.lemmas.List.{append-nil}
use Rattle.std.proofs.lemmas.Option.{same_Some}
use Rattle.dsec_spec.specs.Names.{Labels, IsName, wire_octets}
use Rattle.dsec_spec.specs.Reading.{Reads}
use Rattle.dsec_spec.specs.WireNames.{IsReadableName, NameRead, name_at}
use Rattle.dsec_spec.proofs.WireNameLemmas.{same_names}
use Rattle.dsec_spec.proofs.NamesInMessages.{from_name_at, name_at_within, name_at_reads}
use Rattle.dsec_name.specs.Wire.{IsOnWire}
use Rattle.dsec_wire.specs.declared.error.MessageError.{MessageError}
use Rattle.dsec_wire.specs.Errors.{wants_memory}
use Rattle.dsec_wire.specs.NameOctets.{OctetsRead, uncompressed, name_octets}

-- what a call that reads the name at a place may answer
abbrev pub ReadsName : List ℕ → ℕ → Result NameRead MessageError → Type 0
ReadsName m at r = Reads {Y = NameRead} wants_memory (λ read. (read.0, read.1)) r (name_at m at)

pub found_name : (m : List ℕ) (at : ℕ) (r : Result NameRead MessageError) → ReadsName m at r → IfOk r (λ read. IsReadableName m at read.0 read.1)
found_name m at (Ok read) e = from_name_at m at read.0 read.1 e
found_name m at (Err e) h = tt

pub only_name : (m : List ℕ) (at : ℕ) (r : Result NameRead MessageError) → ReadsName m at r → (name : Labels) (after : ℕ) → IsReadableName m at name after
    → Reads {Y = NameRead} wants_memory (λ read. (read.0, read.1)) r (Some (name, after))
only_name m at r h name after is =
    subst (λ (o : Option NameRead). Reads {Y = NameRead} wants_memory (λ read. (read.0, read.1)) r o) (name_at_reads m at name after is) h

-- octets that were read of a name at a place
pub record IsUncompressed (m : List ℕ) (at : ℕ) (octets : List ℕ) (after : ℕ) : Type 0 where
  pub name : Labels
  pub read : name_at m at ≡ Some (name, after)
  pub is : octets ≡ wire_octets name
  pub good : IsName name
  pub within : after ≤ length m

read_octets : (m : List ℕ) (at : ℕ) (read : Option NameRead) (x : OctetsRead) → name_at m at ≡ read → option_map uncompressed read ≡ Some x → IsUncompressed m at x.0 x.1
read_octets m at None x e f = absurd cc
read_octets m at (Some name) x e f =
    subst (λ (o : OctetsRead). IsUncompressed m at o.0 o.1) (same_Some (uncompressed name) x f) (record {
      name = name.0;
      read = e;
      is = refl;
      good = (from_name_at m at name.0 name.1 e).short;
      within = name_at_within m at name.0 name.1 e;
    })

pub from_name_octets : (m : List ℕ) (at : ℕ) (x : OctetsRead) → name_octets m at ≡ Some x → IsUncompressed m at x.0 x.1
from_name_octets m at x e = read_octets m at (name_at m at) x refl e

pub no_name : (m : List ℕ) (at : ℕ) → name_octets m at ≡ None → name_at m at ≡ None
no_name m at e = elim (name_at m at) as (λ o. option_map uncompressed o ≡ None → o ≡ None) [
  | Some name ↦ λ f. absurd cc
  | None ↦ λ f. refl
] e

-- the name that is kept of such octets
pub kept_name : (m : List ℕ) (at : ℕ) (octets : List ℕ) (after : ℕ) (name : Labels) → IsUncompressed m at octets after → IsOnWire name octets → IsName name → name_at m at ≡ Some (name, after)
kept_name m at octets after name u wire good =
    let same = same_names u.name name [] [] u.good good (append-nil (wire_octets u.name) ∙ (sym u.is ∙ (wire.is ∙ sym (append-nil (wire_octets name))))) in
    u.read ∙ ap (λ (n : Labels). Some (n, after)) same.0

pub name_ends_within : (m : List ℕ) (at : ℕ) (x : OctetsRead) → name_octets m at ≡ Some x → x.1 ≤ length m
name_ends_within m at x e = (from_name_octets m at x e).within
