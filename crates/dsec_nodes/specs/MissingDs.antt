-- What is known of a name where no DS set stands for it (RFC 4035 5.2, RFC 5155 8.9, RFC 6840 4.4).
use Rattle.std.specs.Prelude.{ℕ, List}
use Rattle.dsec_spec.specs.Names.{Place}
use Rattle.dsec_spec.specs.Groups.{Group}
use Rattle.dsec_nodes.specs.World.{World}
use Rattle.dsec_nodes.specs.Nodes.{Node}
pub use Rattle.dsec_nodes.specs.Looking.{bogus_at, within_by, insecure_by, Looked, decided, passed, if_signed, then_looked, by_looked}
unfoldable pub use Rattle.dsec_nodes.specs.Looking.{looked_among}
pub use Rattle.dsec_nodes.specs.MissingByNsec.{is_in_range, delegates, by_matching, by_covering, by_range, by_prefix, by_nsec, by_records, by_group, nsec_search}
pub use Rattle.dsec_nodes.specs.MissingByHash.{nsec3_search}

-- what the groups of a reply's authority section show of a name: NSEC records first, then NSEC3 records (RFC 4035 5.2, RFC 5155 8.9)
abbrev pub looked_for : World → Node → List (List ℕ) → Place → List Group → Looked
looked_for w zone keys name authorities = then_looked (nsec_search w zone keys name authorities) (nsec3_search w zone keys name authorities)

-- what is known of a name by the authority section of a reply without a DS set for it (RFC 4035 5.2)
abbrev pub missing_ds : World → Node → List (List ℕ) → Place → List Group → Node
missing_ds w zone keys name authorities = by_looked w name (looked_for w zone keys name authorities)
