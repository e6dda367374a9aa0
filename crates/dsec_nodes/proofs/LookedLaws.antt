-- What groups show of a name without a DS set is kept, if it is a node.
use Rattle.std.proofs.Common.{◌≡◌, ℕ, Bool, true, false, cond, List, [], ◌∷◌, Some, None, refl}
use Rattle.dsec_spec.specs.Names.{Place}
use Rattle.dsec_spec.specs.Records.{Record, Key}
use Rattle.dsec_spec.specs.Groups.{Group}
use Rattle.dsec_spec.specs.Trying.{Tried, good, nothing, all_bad, too_many_bad}
use Rattle.dsec_nodes.specs.World.{World}
use Rattle.dsec_nodes.specs.Causes.{NoSignature, BadSignature, TooManyBadSignatures}
use Rattle.dsec_nodes.specs.Nodes.{Node}
use Rattle.dsec_nodes.specs.Signing.{under_keys}
use Rattle.dsec_nodes.specs.Looking.{Looked, decided, passed, if_signed, then_looked, looked_among}
use Rattle.dsec_nodes.proofs.Signs.{from_under}
use Rattle.dsec_nodes.proofs.KeptLaws.{KeptBelow, bogus_below}
use Rattle.dsec_nodes.specs.Held.{GoodPair}

-- what a group shows is kept, if it is a node
abbrev pub LookedKept : World → Node → Place → Looked → Type 0
LookedKept w zone name (decided n) = KeptBelow w zone name n
LookedKept w zone name (passed cause) = Unit {0}

-- a choice by a test
pub either : {A : Type 0} (P : A → Type 0) (b : Bool) (x y : A) → (b ≡ true → P x) → (b ≡ false → P y) → P (cond b x y)
either P true x y p q = p refl
either P false x y p q = q refl

-- so is what a group shows where a zone's keys have signed it, or haven't
pub signed_kept : (w : World) (zone : Node) (keys : List (List ℕ)) (name : Place) (group : Group) (by : Record × Key → Looked) (t : Tried (Record × Key)) → under_keys w zone.signer keys group ≡ t
    → ((p : Record × Key) → GoodPair w zone.signer keys group p → LookedKept w zone name (by p)) → LookedKept w zone name (if_signed w name t by)
signed_kept w zone keys name group by (good p) e each = each p (from_under w zone.signer keys group p e)
signed_kept w zone keys name group by nothing e each = bogus_below w zone name NoSignature
signed_kept w zone keys name group by all_bad e each = bogus_below w zone name BadSignature
signed_kept w zone keys name group by too_many_bad e each = bogus_below w zone name TooManyBadSignatures

-- and what the first that decides shows
pub then_kept : (w : World) (zone : Node) (name : Place) (first later : Looked) → LookedKept w zone name first → LookedKept w zone name later
    → LookedKept w zone name (then_looked first later)
then_kept w zone name (decided n) later p q = p
then_kept w zone name (passed cause) (decided n) p q = q
then_kept w zone name (passed cause) (passed None) p q = tt
then_kept w zone name (passed cause) (passed (Some later)) p q = tt

-- so what groups show, where each shows what is kept
pub among_kept : (w : World) (zone : Node) (name : Place) (by : Group → Looked) → ((g : Group) → LookedKept w zone name (by g)) → (groups : List Group)
    → LookedKept w zone name (looked_among by groups)
unfolding looked_among
among_kept w zone name by each [] = tt
among_kept w zone name by each (g ∷ gs) = then_kept w zone name (by g) (looked_among by gs) (each g) (among_kept w zone name by each gs)
