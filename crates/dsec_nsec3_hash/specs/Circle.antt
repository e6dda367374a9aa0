-- Whether a hash is in a gap of the circle of hashes, as a test (RFC 5155 1.3).
use Rattle.std.specs.Prelude.{ℕ, ◌&&◌, ◌||◌, List, Bool, if◌then◌else◌}
use Rattle.std.specs.Cmp.Lexicographic.{slice_cmp}
use Rattle.std.specs.Ordering.{nat_cmp, is_lt}

-- whether one hash is before another (RFC 5155 1.3, hash order)
abbrev pub is_before : List ℕ → List ℕ → Bool
is_before x y = is_lt (slice_cmp nat_cmp x y)

-- whether x is strictly inside the arc from a to b; the arc from a hash to itself, or to one before it, goes by the end
abbrev pub is_inside : List ℕ → List ℕ → List ℕ → Bool
is_inside a b x = if is_before a b then is_before a x && is_before x b else is_before a x || is_before x b
