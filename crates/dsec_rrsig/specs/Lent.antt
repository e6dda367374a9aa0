-- Records that are lent.
use Rattle.std.specs.Prelude.{List, map}
use Rattle.std.specs.Borrow.{Bor}
use Rattle.dsec_spec.specs.Records.{Record}

-- the records
abbrev pub lent : List (Bor Record) → List Record
lent records = map (λ (r : Bor Record). r.now) records
