-- How the keys of groups are hashed.
use Rattle.std.specs.Prelude.{ℕ, ◌+◌, ◌*◌, ◌/◌, ◌^◌, ◌-◌, List, ◌∷◌, [], nat_lt, unwrap_or, Option, Some, None, fold, bit_and, bit_or, bit_xor, if◌then◌else◌}
use Rattle.std.specs.Int.{w64, from_be_bytes}
use Rattle.dsec_spec.specs.Digests.{digest_by}
use Rattle.dsec_spec.specs.Messages.{Header}
use Rattle.dsec_group.specs.declared.seed.Seed.{Seed}
use Rattle.dsec_group.specs.declared.seed.SeededHasher.{SeededHasher}

-- the halves of a product of 128 bits, joined by exclusive or
unfoldable pub mixed : ℕ → ℕ → ℕ
mixed state factor = bit_xor (bit_and (state * factor) (2 ^ 64 - 1)) (state * factor / 2 ^ 64)

-- a step of a hash: an octet goes in, and the seed's factor
abbrev pub step : ℕ → ℕ → ℕ → ℕ
step factor state octet = mixed (bit_xor state octet) factor

-- a hash as it begins
abbrev pub begun : Seed → SeededHasher
begun seed = record { state = seed.state; factor = seed.factor }

-- a hash after octets
abbrev pub written : SeededHasher → List ℕ → SeededHasher
written hasher octets = record { state = fold (step hasher.factor) hasher.state octets; factor = hasher.factor }

-- the seed that is the same for all
abbrev pub fixed_seed : Seed
fixed_seed = record { state = 0x243f_6a88_85a3_08d3; factor = 0x1319_8a2e_0370_7345 }

-- the seed of the first 16 octets of a digest
abbrev pub seed_in : List ℕ → Seed
seed_in (a ∷ b ∷ c ∷ d ∷ e ∷ f ∷ g ∷ h ∷ i ∷ j ∷ k ∷ l ∷ m ∷ n ∷ o ∷ p ∷ rest) = record {
  state = from_be_bytes w64 (a ∷ b ∷ c ∷ d ∷ e ∷ f ∷ g ∷ h ∷ []);
  factor = bit_or (from_be_bytes w64 (i ∷ j ∷ k ∷ l ∷ m ∷ n ∷ o ∷ p ∷ [])) 1;
}
seed_in _ = fixed_seed

-- the seed for a message with this header: of its SHA-256 where it says to have more than 64 records, and otherwise the same for all
abbrev pub message_seed : List ℕ → Option Header → Seed
message_seed message None = fixed_seed
message_seed message (Some header) =
    if nat_lt 64 (header.answers + header.authorities + header.additionals) then seed_in (unwrap_or (digest_by 2 message) []) else fixed_seed
