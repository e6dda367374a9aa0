-- The data of an NSEC record, as they are written.
use Rattle.std.proofs.Common.{◌≡◌, ℕ, ◌≤◌, List, [], ◌∷◌, ◌++◌, length, refl, sym, ap, arith, Some, length-append}
use Rattle.std.proofs.lemmas.List.{append-nil}
use Rattle.dsec_spec.specs.Names.{Labels, IsName, wire_octets}
use Rattle.dsec_spec.specs.Numbers.{NSEC}
use Rattle.dsec_spec.specs.RecordData.{kept, plain, IsReadable}
use Rattle.dsec_spec.specs.RecordViews.{nsec_of}
use Rattle.dsec_spec.specs.TypeBitmaps.{IsBitmapOf}
use Rattle.dsec_spec.proofs.WireNameLemmas.{name_in-wire_octets, length-wire_octets}

pub nsec_readable : (name : Labels) (types bitmap : List ℕ) → IsName name → IsBitmapOf types bitmap → length bitmap ≤ 8704 → IsReadable NSEC (wire_octets name ++ bitmap)
nsec_readable name types bitmap is of short = record {
  parts = kept name ∷ plain bitmap ∷ [];
  are = record {
    fit = (is, ((of.blocks, of.are), tt));
    is = ap (λ (x : List ℕ). wire_octets name ++ x) (sym (append-nil bitmap));
  };
  at_most = let most = is.at_most in omega (arith, length-append (wire_octets name) bitmap, length-wire_octets name);
}

pub nsec_says : (name : Labels) (bitmap : List ℕ) → IsName name → nsec_of (wire_octets name ++ bitmap) ≡ Some (record { next_name = name; types = bitmap })
nsec_says name bitmap is = rw (name_in-wire_octets name bitmap is) refl
