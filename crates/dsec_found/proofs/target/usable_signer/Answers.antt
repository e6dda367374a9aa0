use Rattle.std.proofs.Common.{List, Some, sym, ap, ◌∙◌}
use Rattle.std.specs.Prelude.{find}
use Rattle.std.specs.Option.{option_map}
use Rattle.dsec_name.specs.NameRefs.{name_view}
use Rattle.dsec_spec.specs.Names.{Labels, place}
use Rattle.dsec_spec.specs.Records.{Record}
use Rattle.dsec_found.proofs.TargetSteps.{can_sign, found_from, named, usable}
use Rattle.dsec_found.proofs.target.usable_signer.Goals as goal

pub returns-then-is_usable : goal.returns-then-is_usable
returns-then-is_usable c =
    let top = option_map (λ top. place top.now) c.args.top in
    let from = place c.args.from.now in
    let n = name_view c.in-Some.signer in
    let signatures = c.sig_set-signatures.result.now in
    let signer = sym c.signer_of.ensures ∙ ap (option_map name_view) c.in-Some.is in
    let fine = ap (can_sign top from) (sym c.in_ok-signer.ensures) ∙ (sym c.is_usable.ensures ∙ c.if-is_usable.true) in
    let whole = usable top from signatures c.loop-index.index c.index-signatures-index.result c.loop-index-test.true c.index-signatures-index.is (found_from top from signatures 0) n signer fine c.loop-index.invariant in
    ap (λ (name : Labels). Some name) c.in_ok-signer.ensures
    ∙ (sym whole ∙ ap (λ (ss : List Record). find (can_sign top from) (named ss)) c.sig_set-signatures.ensures.signatures)
