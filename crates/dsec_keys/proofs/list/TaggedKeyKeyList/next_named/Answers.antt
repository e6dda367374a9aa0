use Rattle.std.proofs.Common.{◌≡◌, ◌==◌, ◌&&◌, true, refl, sym, ap, ◌∙◌, arith}
use Rattle.std.proofs.lemmas.Bool.{eq-eqb}
use Rattle.dsec_spec.specs.KeyTag.{key_tag}
use Rattle.dsec_link.specs.TaggedKeys.{tagged_view}
use Rattle.dsec_keys.specs.Indexes.{is_named}
use Rattle.dsec_keys.proofs.list.TaggedKeyKeyList.next_named.Goals as goal

pub returns-then-tag-self-clause-next : goal.returns-then-tag-self-clause-next
returns-then-tag-self-clause-next c =
    let one = c.args.self.now in
    let named : is_named c.args.algorithm c.args.tag (tagged_view one) ≡ true =
    ap (λ b. b && (c.args.tag == key_tag (tagged_view one))) (sym c.eq.ensures ∙ c.if-eq.true) ∙ eq-eqb c.args.tag (key_tag (tagged_view one)) (c.if-tag-self.true ∙ one.summed) in (
      omega (arith, c.if-from-eq0.true),
      (tagged_view one, refl, named),
      λ i key on below there. absurd (omega (arith, below)),
    )
