-- Settings that lie between two ends.
use Rattle.std.specs.Prelude.{◌≡◌, IsTrue}
use Rattle.std.specs.Ordering.{is_le}
use Rattle.std.specs.declared.cmp.Ordering.{Ordering}
use Rattle.std.specs.declared.cmp.Ordering.TheVariants.{Less}

-- a setting's default, and its ends
pub record Limits (X : Type 0) : Type 0 where
  pub default : X
  pub min : X
  pub max : X

-- a value that is no less than the first end and no greater than the second
pub record IsBetween {X : Type 0} (cmp : X → X → Ordering) (min max value : X) : Type 0 where
  pub low : IsTrue (is_le (cmp min value))
  pub high : IsTrue (is_le (cmp value max))

-- a value as it is kept between two ends: itself where it lies between them, else the end that is nearest
pub record IsLimited {X : Type 0} (cmp : X → X → Ordering) (min max value limited : X) : Type 0 where
  pub between : IsBetween cmp min max value → limited ≡ value
  pub low : cmp value min ≡ Less → limited ≡ min
  pub high : cmp max value ≡ Less → limited ≡ max
