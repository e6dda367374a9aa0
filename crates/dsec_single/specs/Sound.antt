-- What each answer on a single group means, whatever caches hold and whatever an upstream says (RFC 4033 5, RFC 4035 5).
use Rattle.std.specs.Prelude.{◌≡◌, ◌⊎◌, IsSome, Contains, [], Some, None}
use Rattle.dsec_spec.specs.Names.{Place, place}
use Rattle.dsec_spec.specs.Groups.{Group}
use Rattle.dsec_spec.specs.Islands.{island}
use Rattle.dsec_spec.specs.JudgedGroups.{ShowsGroup}
use Rattle.dsec_spec.specs.AtQuestion.{IsIsland}
use Rattle.dsec_link.specs.Shown.{ShownSet}
use Rattle.dsec_group.specs.declared.state.ValidationState.{ValidationState}
use Rattle.dsec_group.specs.declared.state.ValidationState.TheVariants.{Secure, Insecure, Bogus, Indeterminate}
use Rattle.dsec_nodes.specs.World.{World, moment}
use Rattle.dsec_nodes.specs.Causes.{RrsigWithoutRrset, NoTrustAnchor}
use Rattle.dsec_nodes.specs.Nodes.{SignedCause}
use Rattle.dsec_nodes.specs.SoundFindings.{IsShownInsecure}
use Rattle.dsec_by_node.specs.Answers.{Told}

-- Secure: links show the group at the moment of judging, by a key of the zone; they lead from one of the anchors, at the group's island; by the
-- last one's signature are the closest encloser and the TTL; and no cause is told (RFC 4033 5, RFC 4035 5.3)
pub record IsSecureBy (w : World) (group : Group) (zone : Place) (told : Told) : Type 0 where
  pub shown : ShownSet
  pub its : told.shown ≡ Some shown
  pub at : shown.moment ≡ moment w
  pub is_listed : Contains w.anchors shown.anchor
  pub is_island : IsIsland w.anchors (place group.owner) group.rtype (place shown.anchor.owner)
  pub shows : ShowsGroup w.accepts shown.anchor shown.links shown.moment group zone told.answer.closest_encloser told.answer.adjusted
  pub no_cause : told.answer.cause ≡ None

-- what each status means: an Insecure group has a signed record that shows at the moment of judging, from an anchor of its island, that no chain
-- leads to a name at or above its zone, and whose cause is told, or it is of signatures alone; a bogus one has a cause; of an Indeterminate one no
-- anchor stands at or above where it is looked for (RFC 4033 5, RFC 4035 5.2)
abbrev pub SoundAs : World → Group → Place → Told → ValidationState → Type 0
SoundAs w group zone told Secure = IsSecureBy w group zone told
SoundAs w group zone told Insecure =
    ((signed : SignedCause) × IsShownInsecure w group told.answer.cause signed) ⊎ ((group.records ≡ []) × (told.answer.cause ≡ Some RrsigWithoutRrset))
SoundAs w group zone told Bogus = IsSome told.answer.cause
SoundAs w group zone told Indeterminate =
    (island w.anchors (place group.owner) group.rtype ≡ None) × (told.answer.cause ≡ Some NoTrustAnchor)

abbrev pub IsSoundOn : World → Group → Place → Told → Type 0
IsSoundOn w group zone told = SoundAs w group zone told told.answer.state
