-- What is read of a section's records.
use Rattle.std.specs.Prelude.{ℕ, List, Option}
use Rattle.std.specs.Option.{option_map}

-- the place after what was read
abbrev pub place_of : {A : Type 0} → Option (List A × ℕ) → Option ℕ
place_of read = option_map (λ all. all.1) read
