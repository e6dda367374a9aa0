-- Names on the wire, read (RFC 1035 3.1).
use Rattle.std.specs.Prelude.{◌≡◌, ℕ, zero, suc, ◌<◌, nat_lt, List, [], ◌∷◌, length, take, drop, All, Option, Some, None, Result, if◌then◌else◌}
use Rattle.dsec_spec.specs.Names.{Labels, wire_octets}
use Rattle.dsec_spec.specs.Reading.{◌>>=◌}
use Rattle.dsec_name.specs.Errors.{name_of_read}
use Rattle.dsec_name.specs.declared.error.NameError.{NameError}

-- the octets are these labels on the wire, none of them empty, and the root's at the very end
pub record IsOnWire (labels : Labels) (octets : List ℕ) : Type 0 where
  pub some : All (λ label. 0 < length label) labels
  pub is : octets ≡ wire_octets labels

-- the root's length is the last octet
abbrev pub root_before : List ℕ → Option Labels
root_before [] = Some []
root_before (octet ∷ octets) = None

-- the labels on the wire, read in at most so many steps
abbrev pub wire_labels_within : ℕ → List ℕ → Option Labels
wire_labels_within zero octets = None
wire_labels_within (suc n) [] = None
wire_labels_within (suc n) (zero ∷ octets) = root_before octets
wire_labels_within (suc n) (suc k ∷ octets) =
    if nat_lt (length octets) (suc k) then None
    else wire_labels_within n (drop (suc k) octets) >>= λ labels. Some (take (suc k) octets ∷ labels)

-- the labels that octets write on the wire
abbrev pub wire_labels : List ℕ → Option Labels
wire_labels octets = wire_labels_within (length octets) octets

-- the name that octets write on the wire
abbrev pub name_on_wire : List ℕ → Result Labels NameError
name_on_wire octets = name_of_read (wire_labels octets)
