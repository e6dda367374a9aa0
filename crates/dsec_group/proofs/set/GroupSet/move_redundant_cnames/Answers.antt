use Rattle.std.proofs.Common.{◌∙◌, sym, ap, arith}
use Rattle.std.specs.Prelude.{count_by}
use Rattle.dsec_spec.specs.Redirection.{is_bare}
use Rattle.dsec_group.proofs.RedirectLaws.{nothing_moved}
use Rattle.dsec_group.proofs.set.GroupSet.move_redundant_cnames.Goals as goal

pub returns-else-bare-gt0-clause-moved : goal.returns-else-bare-gt0-clause-moved
returns-else-bare-gt0-clause-moved c =
    nothing_moved c.args.anchors.now c.args.max_cname_dname c.args.self.now.groups (ap (count_by is_bare) (sym c.as_slice.ensures.value) ∙ omega (arith, c.bare_count-bare.ensures, c.if-bare-gt0.false))
