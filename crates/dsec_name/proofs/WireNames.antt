-- A name on the wire whose labels fit: whether the name does.
use Rattle.std.proofs.Common.{◌≡◌, ℕ, ◌-◌, ◌<◌, ◌≤◌, List, [], ◌∷◌, length, take, refl, ap, ◌∙◌, arith, length-append}
use Rattle.std.specs.Prelude.{Bool, true, false, Option, Some, None, Ok, Err, nat_lt}
use Rattle.std.specs.Option.{option_map}
use Rattle.std.specs.List.{list_any}
use Rattle.std.proofs.lemmas.List.{take_at}
use Rattle.std.proofs.lemmas.Bool.Decides.{nat_tests}
use Rattle.dsec_spec.specs.Names.{Labels, IsName, wire_length}
use Rattle.dsec_name.specs.Errors.{is_long, name_of_read}
use Rattle.dsec_name.specs.Keys.{labels_octets}
use Rattle.dsec_name.specs.Wire.{wire_labels, name_on_wire}
use Rattle.dsec_name.specs.declared.error.NameError.TheVariants.{LongName}
use Rattle.dsec_name.proofs.NameReading.{none_long}
use Rattle.dsec_name.proofs.WireReading.{wire_reads, length-wire}

-- labels were read, and none is long
pub record IsFitting (read : Option Labels) : Type 0 where
  pub labels : Labels
  pub is : read ≡ Some labels
  pub fits : list_any is_long labels ≡ false

pub fitting : (read : Option Labels) (found : Option Bool) (long : Bool) → found ≡ option_map (list_any is_long) read → found ≡ Some long → long ≡ false → IsFitting read
fitting None found long e f g = absurd cc
fitting (Some labels) found long e f g = record { labels = labels; is = refl; fits = cc }

test_true : (a b : ℕ) → a < b → nat_lt a b ≡ true
test_true a b h = grind (arith, nat_tests)

test_false : (a b : ℕ) → b ≤ a → nat_lt a b ≡ false
test_false a b h = grind (arith, nat_tests)

-- a name of labels that fit
pub name_too_long : (read : Option Labels) → (f : IsFitting read) → 255 < wire_length f.labels → name_of_read read ≡ Err LongName
name_too_long read f h = ap name_of_read f.is ∙ rw (f.fits, test_true 255 (wire_length f.labels) h) refl

pub name_fits : (read : Option Labels) → (f : IsFitting read) → wire_length f.labels ≤ 255 → name_of_read read ≡ Ok f.labels
name_fits read f h = ap name_of_read f.is ∙ rw (f.fits, test_false 255 (wire_length f.labels) h) refl

wire_len : (octets : List ℕ) → (f : IsFitting (wire_labels octets)) → length octets ≡ wire_length f.labels
wire_len octets f = let w = wire_reads octets f.labels f.is in ap (λ (x : List ℕ). length x) w.is ∙ length-wire f.labels

pub wire_too_long : (octets : List ℕ) → IsFitting (wire_labels octets) → 255 < length octets → name_on_wire octets ≡ Err LongName
wire_too_long octets f h = name_too_long (wire_labels octets) f (let e = wire_len octets f in omega arith)

pub wire_fits : (octets : List ℕ) → (f : IsFitting (wire_labels octets)) → length octets ≤ 255 → name_on_wire octets ≡ Ok f.labels
wire_fits octets f h = name_fits (wire_labels octets) f (let e = wire_len octets f in omega arith)

pub wire_named : (octets : List ℕ) → (f : IsFitting (wire_labels octets)) → length octets ≤ 255 → IsName f.labels
wire_named octets f h =
    let w = wire_reads octets f.labels f.is in
    record { labels = none_long f.labels w.some f.fits; at_most = let e = wire_len octets f in omega arith }

-- all but the root's
pub wire_front : (octets : List ℕ) → (f : IsFitting (wire_labels octets)) → take (length octets - 1) octets ≡ labels_octets f.labels
wire_front octets f =
    let w = wire_reads octets f.labels f.is in
    let e = ap (λ (x : List ℕ). length x) w.is in
    ap (take (length octets - 1)) w.is
    ∙ take_at (labels_octets f.labels) (0 ∷ []) (length octets - 1) (omega (arith, length-append (labels_octets f.labels) (0 ∷ [])))
