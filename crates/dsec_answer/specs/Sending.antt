-- How far the texts of a script's outcomes have gone out, in code.
use Rattle.std.specs.Prelude.{◌≡◌, ◌≢◌, ◌⊎◌, ℕ, List, [], ◌∷◌, ◌++◌, Option}
use Rattle.dsec_spec.specs.Records.{Record}
use Rattle.dsec_spec.specs.Accepts.{Accepts}
use Rattle.dsec_spec.specs.Outside.{Table}
use Rattle.dsec_nodes.specs.Nodes.{Node}
use Rattle.dsec_node.specs.Caches.{Held}
use Rattle.dsec_outside.specs.Sending.{SentBut}
use Rattle.dsec_script.specs.declared.items.Item.{Item}
use Rattle.dsec_answer.specs.Asked.{HoldsAmong}
use Rattle.dsec_answer.specs.Told.{Outcome}
use Rattle.dsec_answer.specs.Outcomes.{IsOutcome, kept_for, texts_from}

-- a message comes to this outcome over these nodes, and what is held then is among them, or was put for it
abbrev pub ComesOver : Accepts → List Record → Table → List Node → Item → Outcome → Held → Type 0
ComesOver accepts anchors table kept item outcome held =
    (puts : List Node) × IsOutcome accepts anchors table kept puts item outcome × HoldsAmong (kept ++ puts) held

-- these messages have outcomes; they lead from a moment with the nodes that are kept then to another
abbrev pub Leads : Accepts → List Record → Table → ℕ → List Node → List Item → List Outcome → ℕ → List Node → Type 0
Leads accepts anchors table moment kept [] [] last left = (last ≡ moment) × (left ≡ kept)
Leads accepts anchors table moment kept [] (outcome ∷ outcomes) last left = ⊥
Leads accepts anchors table moment kept (item ∷ items) [] last left = ⊥
Leads accepts anchors table moment kept (item ∷ items) (outcome ∷ outcomes) last left =
    (puts : List Node) × IsOutcome accepts anchors table (kept_for moment item kept) puts item outcome
    × Leads accepts anchors table item.seconds (kept_for moment item kept ++ puts) items outcomes last left

-- these messages have outcomes, which lead to a moment with what is held then, and all of whose text went out but the rest at its end
pub record SoFar (accepts : Accepts) (anchors : List Record) (table : Table) (items : List Item) (moment : ℕ) (held : Held) (before after : Option (List ℕ)) (rest : List ℕ) : Type 0 where
  pub outcomes : List Outcome
  pub kept : List Node
  pub among : HoldsAmong kept held
  pub each : Leads accepts anchors table 0 [] items outcomes moment kept
  pub sent : SentBut before after (texts_from 0 outcomes) rest

-- nothing went out, or of this text all but a rest that isn't empty
abbrev pub NotAll : Option (List ℕ) → Option (List ℕ) → List ℕ → Type 0
NotAll before after text = (after ≡ before) ⊎ ((rest : List ℕ) × (rest ≢ []) × SentBut before after text rest)

-- where something was gathered something still is; and nothing went out, or something is gathered
abbrev pub HoldsBack : Option (List ℕ) → Option (List ℕ) → List ℕ → List ℕ → Type 0
HoldsBack before after old new = (old ≢ [] → new ≢ []) × ((after ≡ before) ⊎ (new ≢ []))
