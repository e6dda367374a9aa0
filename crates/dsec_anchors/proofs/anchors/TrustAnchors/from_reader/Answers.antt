use Rattle.dsec_anchors.proofs.TextLemmas.{never_failed, none_failed, told_all}
use Rattle.dsec_anchors.proofs.anchors.TrustAnchors.from_reader.Goals as goal

pub returns-in-Ok-clause-text : goal.returns-in-Ok-clause-text
returns-in-Ok-clause-text g c =
    told_all (g.S.Source.left c.args.source.now) (g.S.Source.left c.read_all.new.source) c.in-Ok.text.items c.deref.result.now c.anchors_of.result c.in-Ok.ensures.taken c.in-Ok.ensures.whole c.deref.ensures.value c.anchors_of.ensures

pub returns-in-Ok-clause-counts : goal.returns-in-Ok-clause-counts
returns-in-Ok-clause-counts g c = none_failed _ _ _ c.deref.result.now c.anchors_of.result c.in-Ok.ensures.counts c.anchors_of.ensures

pub returns-in-Ok-clause-ended : goal.returns-in-Ok-clause-ended
returns-in-Ok-clause-ended g c = λ failed. absurd (never_failed _ c.deref.result.now c.anchors_of.result c.anchors_of.ensures failed)
