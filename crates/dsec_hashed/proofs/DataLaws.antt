-- The data of NSEC3 and NSEC3PARAM records, as they are written.
use Rattle.std.proofs.Common.{◌≡◌, ℕ, ◌+◌, ◌*◌, ◌/◌, ◌%◌, ◌<◌, ◌≤◌, ◌^◌, List, [], ◌∷◌, ◌++◌, length, refl, sym, ap, ◌∙◌, arith, Option, Some, append_assoc, length-append}
use Rattle.std.specs.Int.{w16, to_be_bytes}
use Rattle.std.proofs.lemmas.List.{append-nil}
use Rattle.dsec_spec.specs.Reading.{◌>>=◌}
use Rattle.dsec_spec.specs.Numbers.{NSEC3, NSEC3PARAM}
use Rattle.dsec_spec.specs.RecordData.{plain, IsReadable}
use Rattle.dsec_spec.specs.RecordViews.{Hashing, hashing_octets, hashing_in, text_in, Nsec3, nsec3_octets, nsec3_of}
use Rattle.dsec_spec.specs.TypeBitmaps.{IsBitmapOf}
use Rattle.dsec_spec.proofs.WireNameLemmas.{octets_in-append}

short_again : (n : ℕ) → n < 2 ^ 16 → n / 256 % 256 * 256 + n % 256 ≡ n
short_again n small = omega arith

-- ---- what stands in front

pub hashing_read : (how : Hashing) (rest : List ℕ) → how.iterations < 2 ^ 16 → hashing_in (hashing_octets how ++ rest) ≡ Some (how, rest)
hashing_read how rest small = rw (octets_in-append (length how.salt) how.salt rest refl) (ap (λ (n : ℕ). Some (record { hash_algorithm = how.hash_algorithm; flags = how.flags; iterations = n; salt = how.salt }, rest)) (short_again how.iterations small))

length-hashing_octets : (how : Hashing) → length (hashing_octets how) ≡ 5 + length how.salt
length-hashing_octets how = omega arith

-- ---- NSEC3

parted : (how : Hashing) (next bitmap : List ℕ) → nsec3_octets (record { hashing = how; next_owner = next; types = bitmap }) ≡ hashing_octets how ++ (length next ∷ (next ++ bitmap))
parted how next bitmap = append_assoc (hashing_octets how) (length next ∷ next) bitmap

pub nsec3_says : (how : Hashing) (next bitmap : List ℕ) → how.iterations < 2 ^ 16 → nsec3_of (nsec3_octets (record { hashing = how; next_owner = next; types = bitmap })) ≡ Some (record { hashing = how; next_owner = next; types = bitmap })
nsec3_says how next bitmap small =
    ap nsec3_of (parted how next bitmap)
    ∙ (ap (λ (o : Option (Hashing × List ℕ)). o >>= λ h. (text_in h.1 >>= λ n. Some (nsec3_is h.0 n.0 n.1))) (hashing_read how (length next ∷ (next ++ bitmap)) small)
    ∙ ap (λ (o : Option (List ℕ × List ℕ)). o >>= λ n. Some (nsec3_is how n.0 n.1)) (octets_in-append (length next) next bitmap refl))
  where
    nsec3_is : Hashing → List ℕ → List ℕ → Nsec3
    nsec3_is h n t = record { hashing = h; next_owner = n; types = t }

pub nsec3_readable : (how : Hashing) (next types bitmap : List ℕ) → length how.salt ≤ 255 → length next ≤ 255 → IsBitmapOf types bitmap → length bitmap ≤ 8704
    → IsReadable NSEC3 (nsec3_octets (record { hashing = how; next_owner = next; types = bitmap }))
nsec3_readable how next types bitmap short few of size = record {
  parts = plain (how.hash_algorithm ∷ how.flags ∷ to_be_bytes w16 how.iterations) ∷ plain (length how.salt ∷ how.salt) ∷ plain (length next ∷ next) ∷ plain bitmap ∷ [];
  are = record {
    fit = (refl, (record { text = how.salt; is = refl }, (record { text = next; is = refl }, ((of.blocks, of.are), tt))));
    is = parted how next bitmap ∙ ap (λ (x : List ℕ). hashing_octets how ++ (length next ∷ (next ++ x))) (sym (append-nil bitmap));
  };
  at_most = let p = ap length (parted how next bitmap) in
      omega (arith, p, length-append (hashing_octets how) (length next ∷ (next ++ bitmap)), length-hashing_octets how, length-append next bitmap);
}

-- ---- NSEC3PARAM

pub param_readable : (how : Hashing) → length how.salt ≤ 255 → IsReadable NSEC3PARAM (hashing_octets how)
param_readable how short = record {
  parts = plain (how.hash_algorithm ∷ how.flags ∷ to_be_bytes w16 how.iterations) ∷ plain (length how.salt ∷ how.salt) ∷ [];
  are = record {
    fit = (refl, (record { text = how.salt; is = refl }, tt));
    is = rw (append-nil how.salt) refl;
  };
  at_most = omega arith;
}

-- ---- as they are put together

pub nsec3_joined : (how : Hashing) (next bitmap : List ℕ) → length next ≡ 20 → ((hashing_octets how ++ 20 ∷ []) ++ next) ++ bitmap ≡ nsec3_octets (record { hashing = how; next_owner = next; types = bitmap })
nsec3_joined how next bitmap e =
    ap (λ (x : List ℕ). x ++ bitmap) (append_assoc (hashing_octets how) (20 ∷ []) next ∙ ap (λ (n : ℕ). hashing_octets how ++ n ∷ next) (sym e))
