use Rattle.std.proofs.Common.{◌≡◌, ℕ, List, Some, Ok, subst}
use Rattle.dsec_spec.specs.Numbers.{IN}
use Rattle.dsec_anchors.specs.Texts.{anchors_in}
use Rattle.dsec_node.specs.Configs.{Settings}
use Rattle.dsec_course.specs.Advancing.{begun as begun_of}
use Rattle.dsec_core.specs.Validating.{begun_as}
use Rattle.dsec_uses_steps.proofs.begun.Goals as goal

pub returns : goal.returns
returns c = (
  c.in_ok-anchors.anchors,
  subst (λ (text : List ℕ). anchors_in (Some IN) text ≡ Ok c.in_ok-anchors.anchors) c.as_bytes.ensures.value c.in_ok-anchors.ensures,
  subst (λ (s : Settings). begun_as c.in_ok-anchors.anchors s 500 (begun_of c.in_ok-anchors.anchors s.max_cname_dname c.args.message.now) ≡ Ok c.in_ok-start.field-0)
      c.new.ensures c.in_ok-start.ensures.exact,
)
