-- Links that are kept with what they show.
use Rattle.std.specs.Prelude.{ℕ, List, [], ◌∷◌}
use Rattle.dsec_spec.specs.Records.{Record, RecordSet}
use Rattle.dsec_spec.specs.Accepts.{Accepts}
use Rattle.dsec_spec.specs.Chain as chain

-- an anchor, the links that lead from it to a set, and the moment at which they do
pub record ShownSet : Type 0 where
  pub anchor : Record
  pub links : List chain.Link
  pub moment : ℕ

-- the links do lead from the anchor to a set at the moment
abbrev pub Shows : Accepts → ShownSet → Type 0
Shows accepts shown = (records : RecordSet) × chain.Holds accepts (shown.anchor ∷ []) shown.links records shown.moment
