-- Groups with what validation says of them, and why.
use Rattle.std.specs.Prelude.{◌≡◌, ℕ, Option, Some, None, IsSome}
use Rattle.dsec_cause.specs.declared.cause.Cause.{Cause}
use Rattle.dsec_group.specs.declared.state.ValidationState.{ValidationState}
use Rattle.dsec_group.specs.declared.state.ValidationState.TheVariants.{Secure, Insecure, Bogus, Indeterminate}
use Rattle.dsec_link.specs.Shown.{ShownSet}
use Rattle.dsec_spec.specs.Accepts.{Accepts}
use Rattle.dsec_spec.specs.Groups.{Group}
use Rattle.dsec_spec.specs.JudgedGroups.{ShowsGroup}
use Rattle.dsec_spec.specs.Names.{Labels, place}

-- a group with its status; the zone that has signed it, or was to; its closest encloser, where it is Secure as an expansion; the cause of
-- its status; the seconds that its TTLs are cut to, where they are; and what shows a Secure one
pub record Validated : Type 0 where
  pub group : Group
  pub state : ValidationState
  pub signer : Labels
  pub closest_encloser : Option Labels
  pub cause : Option Cause
  pub adjusted : Option ℕ
  pub shown : Option ShownSet

-- a group that isn't Secure has nothing to show
pub record HasNothing (v : Validated) : Type 0 where
  pub no_encloser : v.closest_encloser ≡ None
  pub not_cut : v.adjusted ≡ None

-- a Secure group is shown by links from an anchor, and has no cause; a bogus one has a cause
abbrev pub JustifiedBy : Accepts → Validated → ValidationState → Option ShownSet → Type 0
JustifiedBy accepts v Secure (Some shown) =
    ShowsGroup accepts shown.anchor shown.links shown.moment v.group (place v.signer) v.closest_encloser v.adjusted × (v.cause ≡ None)
JustifiedBy accepts v Bogus None = HasNothing v × IsSome v.cause
JustifiedBy accepts v Insecure None = HasNothing v
JustifiedBy accepts v Indeterminate None = HasNothing v
JustifiedBy accepts v _ _ = ⊥

abbrev pub IsJustified : Accepts → Validated → Type 0
IsJustified accepts v = JustifiedBy accepts v v.state v.shown
