-- The data of RRSIG records are read back from their fields.
use Rattle.std.proofs.Common.{◌≡◌, ℕ, ◌+◌, ◌*◌, ◌/◌, ◌%◌, ◌^◌, ◌<◌, List, ◌∷◌, get_or, Some, refl, sym, ap, arith}
use Rattle.std.specs.Prelude.{All}
use Rattle.dsec_spec.specs.RecordData.{name_in}
use Rattle.dsec_spec.specs.Records.{Rrsig, rrsig_octets, rrsig_of}
use Rattle.dsec_spec.proofs.WireNameLemmas.{name_in-wire_octets, from_name_in}
use Rattle.dsec_spec.proofs.RecordLemmas.{IsRrsig}
use Rattle.dsec_spec.proofs.ReadingLemmas.{from_bind, read_as}

pub two_again : (n : ℕ) → n < 2 ^ 16 → n / 256 % 256 * 256 + n % 256 ≡ n
two_again n small = omega arith

four_again : (n : ℕ) → n < 2 ^ 32 → ((n / 16777216 % 256 * 256 + n / 65536 % 256) * 256 + n / 256 % 256) * 256 + n % 256 ≡ n
four_again n small = omega arith

-- the octets of an RRSIG record say what it does
pub rrsig_of-rrsig_octets : (sig : Rrsig) → IsRrsig sig → rrsig_of (rrsig_octets sig) ≡ Some sig
unfolding rrsig_of
rrsig_of-rrsig_octets sig is =
    rw (
      two_again sig.covered is.covered,
      four_again sig.original_ttl is.original_ttl,
      four_again sig.expiration is.expiration,
      four_again sig.inception is.inception,
      two_again sig.tag is.tag,
      name_in-wire_octets sig.signer sig.signature is.signer,
    ) refl

-- the octets of numbers that were made of octets
pub two_high : (a b : ℕ) → a < 256 → b < 256 → (a * 256 + b) / 256 % 256 ≡ a
two_high a b ha hb = omega arith

pub two_low : (a b : ℕ) → a < 256 → b < 256 → (a * 256 + b) % 256 ≡ b
two_low a b ha hb = omega arith

pub four_first : (a b c d : ℕ) → a < 256 → b < 256 → c < 256 → d < 256 → (((a * 256 + b) * 256 + c) * 256 + d) / 16777216 % 256 ≡ a
four_first a b c d ha hb hc hd = omega arith

pub four_second : (a b c d : ℕ) → a < 256 → b < 256 → c < 256 → d < 256 → (((a * 256 + b) * 256 + c) * 256 + d) / 65536 % 256 ≡ b
four_second a b c d ha hb hc hd = omega arith

pub four_third : (a b c d : ℕ) → a < 256 → b < 256 → c < 256 → d < 256 → (((a * 256 + b) * 256 + c) * 256 + d) / 256 % 256 ≡ c
four_third a b c d ha hb hc hd = omega arith

pub four_last : (a b c d : ℕ) → a < 256 → b < 256 → c < 256 → d < 256 → (((a * 256 + b) * 256 + c) * 256 + d) % 256 ≡ d
four_last a b c d ha hb hc hd = omega arith

-- data that say what an RRSIG record does are its octets
pub rrsig_octets-rrsig_of : (x : List ℕ) (sig : Rrsig) → All (λ o. o < 256) x → rrsig_of x ≡ Some sig → rrsig_octets sig ≡ x
unfolding rrsig_of
rrsig_octets-rrsig_of (a ∷ b ∷ c ∷ d ∷ e ∷ f ∷ g ∷ h ∷ i ∷ j ∷ k ∷ l ∷ m ∷ n ∷ o ∷ p ∷ q ∷ r ∷ y) sig small is =
    let at : (index : ℕ) → index < 18 → get_or (a ∷ b ∷ c ∷ d ∷ e ∷ f ∷ g ∷ h ∷ i ∷ j ∷ k ∷ l ∷ m ∷ n ∷ o ∷ p ∷ q ∷ r ∷ y) index 0 < 256 = λ index low. small index 0 (omega (arith, low)) in
    let ha : a < 256 = at 0 (omega arith) in let hb : b < 256 = at 1 (omega arith) in
    let he : e < 256 = at 4 (omega arith) in let hf : f < 256 = at 5 (omega arith) in let hg : g < 256 = at 6 (omega arith) in let hh : h < 256 = at 7 (omega arith) in
    let hi : i < 256 = at 8 (omega arith) in let hj : j < 256 = at 9 (omega arith) in let hk : k < 256 = at 10 (omega arith) in let hl : l < 256 = at 11 (omega arith) in
    let hm : m < 256 = at 12 (omega arith) in let hn : n < 256 = at 13 (omega arith) in let ho : o < 256 = at 14 (omega arith) in let hp : p < 256 = at 15 (omega arith) in
    let hq : q < 256 = at 16 (omega arith) in let hr : r < 256 = at 17 (omega arith) in
    let signer = from_bind (name_in y) _ sig is in
    let name = from_name_in y signer.0.0 signer.0.1 signer.1 in
    let x = a ∷ b ∷ c ∷ d ∷ e ∷ f ∷ g ∷ h ∷ i ∷ j ∷ k ∷ l ∷ m ∷ n ∷ o ∷ p ∷ q ∷ r ∷ y in
    read_as (λ (s : Rrsig). rrsig_octets s ≡ x) _ sig signer.2
    (rw (
      two_high a b ha hb,
      two_low a b ha hb,
      four_first e f g h he hf hg hh,
      four_second e f g h he hf hg hh,
      four_third e f g h he hf hg hh,
      four_last e f g h he hf hg hh,
      four_first i j k l hi hj hk hl,
      four_second i j k l hi hj hk hl,
      four_third i j k l hi hj hk hl,
      four_last i j k l hi hj hk hl,
      four_first m n o p hm hn ho hp,
      four_second m n o p hm hn ho hp,
      four_third m n o p hm hn ho hp,
      four_last m n o p hm hn ho hp,
      two_high q r hq hr,
      two_low q r hq hr,
    )
    (ap (λ (z : List ℕ). a ∷ b ∷ c ∷ d ∷ e ∷ f ∷ g ∷ h ∷ i ∷ j ∷ k ∷ l ∷ m ∷ n ∷ o ∷ p ∷ q ∷ r ∷ z) (sym name.1)))
rrsig_octets-rrsig_of _ sig small is = absurd cc
