use Rattle.std.proofs.Common.{◌∙◌, sym, ap, map}
use Rattle.std.specs.Option.{option_copied}
use Rattle.dsec_group.specs.Keys.{group_key, key_of}
use Rattle.dsec_group.proofs.IndexLaws.{there_is}
use Rattle.dsec_group.proofs.PlaceLaws.{absent_at, guessed, scanned}
use Rattle.dsec_group.proofs.places.Places.find.Goals as goal

pub returns-then-belongs : goal.returns-then-belongs
returns-then-belongs c =
    let groups = c.args.groups.now in
    let g = c.index-groups-at.result in
    sym (guessed c.args.next.now groups c.in-Some.at.now g c.requires.0 (there_is groups c.in-Some.at.now g g c.if-at-groups.true c.index-groups-at.is) (sym c.belongs.ensures ∙ c.if-belongs.true))

pub returns-in-None : goal.returns-in-None
returns-in-None c =
    sym (absent_at c.args.self.now.places (map group_key c.args.groups.now) (key_of c.args.next.now) c.args.self.now.is_made c.hasher.result.now c.hash_of-hash.result c.requires.1
    c.if-not-self.false c.hasher.ensures c.hash_of-hash.ensures (sym c.get.ensures.value ∙ ap option_copied c.in-None.is))

pub returns-then-not-self : goal.returns-then-not-self
returns-then-not-self c = c.scan.ensures ∙ scanned c.args.next.now c.args.groups.now

pub returns-else-at-groups : goal.returns-else-at-groups
returns-else-at-groups c = c.scan-else-at-groups.ensures ∙ scanned c.args.next.now c.args.groups.now
