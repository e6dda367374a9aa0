-- What is told of a judged group (RFC 4033 5, RFC 4035 4.3).
use Rattle.std.specs.Prelude.{List, Option, Some, None}
use Rattle.dsec_spec.specs.Records.{Record}
use Rattle.dsec_spec.specs.Chain.{Link}
use Rattle.dsec_group.specs.declared.state.ValidationState.{ValidationState}
use Rattle.dsec_group.specs.declared.state.ValidationState.TheVariants.{Secure, Insecure, Bogus, Indeterminate}
use Rattle.dsec_nodes.specs.Causes.{Cause, RrsigWithoutRrset, NoTrustAnchor}
use Rattle.dsec_nodes.specs.Nodes.{SignedCause}
use Rattle.dsec_nodes.specs.Judging.{Finding, is_shown, has_no_set, is_insecure, is_bogus, is_indeterminate}

-- the security status of a group (RFC 4033 5)
abbrev pub state_of : Finding → ValidationState
state_of (is_shown links last signature) = Secure
state_of has_no_set = Insecure
state_of (is_insecure cause signed) = Insecure
state_of (is_bogus cause links) = Bogus
state_of is_indeterminate = Indeterminate

-- the cause of it, if one is told (RFC 8914 4)
abbrev pub cause_of : Finding → Option Cause
cause_of (is_shown links last signature) = None
cause_of has_no_set = Some RrsigWithoutRrset
cause_of (is_insecure cause signed) = cause
cause_of (is_bogus cause links) = Some cause
cause_of is_indeterminate = Some NoTrustAnchor

-- the links to the zone whose keys were tried; of a bogus zone there are none (RFC 4033 2, authentication chain)
abbrev pub zone_links : Finding → Option (List Link)
zone_links (is_shown links last signature) = Some links
zone_links has_no_set = None
zone_links (is_insecure cause signed) = None
zone_links (is_bogus cause links) = Some links
zone_links is_indeterminate = None

-- the link of a shown group's own set (RFC 4033 2, authentication chain)
abbrev pub own_link : Finding → Option Link
own_link (is_shown links last signature) = Some last
own_link has_no_set = None
own_link (is_insecure cause signed) = None
own_link (is_bogus cause links) = None
own_link is_indeterminate = None

-- the signature by which a group is shown (RFC 4035 5.3)
abbrev pub signature_of : Finding → Option Record
signature_of (is_shown links last signature) = Some signature
signature_of has_no_set = None
signature_of (is_insecure cause signed) = None
signature_of (is_bogus cause links) = None
signature_of is_indeterminate = None

-- the signed record that shows that no chain leads to a group's zone (RFC 4035 5.2)
abbrev pub signed_cause_of : Finding → Option SignedCause
signed_cause_of (is_shown links last signature) = None
signed_cause_of has_no_set = None
signed_cause_of (is_insecure cause signed) = Some signed
signed_cause_of (is_bogus cause links) = None
signed_cause_of is_indeterminate = None
