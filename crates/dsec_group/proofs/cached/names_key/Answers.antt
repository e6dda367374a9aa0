use Rattle.dsec_spec.specs.Names.{place}
use Rattle.dsec_wire.specs.Views.{rrsig_view}
use Rattle.dsec_link.specs.TaggedKeys.{tagged_view}
use Rattle.dsec_group.proofs.CheckLaws.{names_is}
use Rattle.dsec_group.proofs.cached.names_key.Goals as goal

pub returns : goal.returns
returns c = names_is (rrsig_view c.args.rrsig.now) (tagged_view c.args.key.now) (place c.args.zone.now) c.matches.result c.matches.ensures
