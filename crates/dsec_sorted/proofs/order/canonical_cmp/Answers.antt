use Rattle.std.proofs.Common.{◌∙◌, sym}
use Rattle.dsec_sorted.proofs.Orderings.{is_equal, last_counts}
use Rattle.dsec_sorted.proofs.order.canonical_cmp.Goals as goal

pub returns : goal.returns
returns c =
    last_counts _ _ _ _ c.canonical_cmp.result
    (sym (rw (c.class.ensures, c.class-2.ensures) at c.cmp-class.ensures) ∙ is_equal c.cmp-class.result c.if-ne.ensures)
    (sym (rw (c.owner.ensures, c.owner-2.ensures) at c.canonical_cmp-owner.ensures) ∙ is_equal c.canonical_cmp-owner.result c.if-ne-2.ensures)
    (sym (rw (c.rtype.ensures, c.rtype-2.ensures) at c.cmp-rtype.ensures) ∙ is_equal c.cmp-rtype.result c.if-ne-3.ensures)
    (rw (c.rdata.ensures.value, c.rdata-2.ensures.value) at c.canonical_cmp.ensures)
