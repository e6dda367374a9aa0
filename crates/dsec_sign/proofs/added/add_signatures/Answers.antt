use Rattle.std.proofs.Common.{◌≡◌, ◌∙◌, ◌++◌, ℕ, List, take, drop, length, map, sym, ap, subst, arith, rules}
use Rattle.std.specs.Prelude.{All}
use Rattle.dsec_spec.specs.Numbers.{RRSIG}
use Rattle.dsec_spec.specs.Records.{Record}
use Rattle.dsec_spec.specs.SignedZones.{IsUnion}
use Rattle.dsec_rrsig.specs.Signers.{period_of, signer_of}
use Rattle.dsec_sign.specs.Places.{set_at}
use Rattle.dsec_rrsig.specs.declared.error.SignError.TheVariants as sign
use Rattle.dsec_sign.specs.SignerAsks.{all_asked}
use Rattle.dsec_sign.proofs.AskSteps.{asked_at_most, asks_as}
use Rattle.dsec_sign.proofs.SignerSteps.{drop_front, signatures_only}
use Rattle.dsec_sign.proofs.added.add_signatures.Goals as goal

pub settle-requires-clause-signatures : goal.settle-requires-clause-signatures
settle-requires-clause-signatures g c =
    let old = c.args.records.now.items in
    let adds = c.in_default.ensures.signed in
    let unsigned : c.len-unsigned.result ≡ length old = omega (arith, c.len-unsigned.ensures, c.args.records.now.ok) in
    let behind : drop c.len-unsigned.result c.sign_behind.new.records.items ≡ adds.signatures =
    ap (drop c.len-unsigned.result) adds.is ∙ (ap (λ (n : ℕ). drop n (old ++ adds.signatures)) unsigned ∙ drop_front old adds.signatures) in
    subst (λ (xs : List Record). All (λ r. r.rtype ≡ RRSIG) xs) (sym behind)
    (signatures_only g.I.SignRaw.signs (period_of c.args.config.now) (map (set_at old) c.args.sets.now) (map (signer_of g.I.SignRaw.key) c.args.keys.now) adds.signatures adds.are)

pub returns-clause-signed : goal.returns-clause-signed
returns-clause-signed g c =
    let old = c.args.records.now.items in
    let signed = c.sign_behind.new.records.items in
    let adds = c.in_default.ensures.signed in
    let unsigned : c.len-unsigned.result ≡ length old = omega (arith, c.len-unsigned.ensures, c.args.records.now.ok) in
    let front : take c.len-unsigned.result signed ≡ old = ap (λ (n : ℕ). take n signed) unsigned ∙ c.in_default.ensures.front in
    let behind : drop c.len-unsigned.result signed ≡ adds.signatures =
    ap (drop c.len-unsigned.result) adds.is ∙ (ap (λ (n : ℕ). drop n (old ++ adds.signatures)) unsigned ∙ drop_front old adds.signatures) in
    record {
      signatures = adds.signatures;
      are = adds.are;
      added = subst (λ (xs : List Record). IsUnion xs adds.signatures c.settle.new.records.items) front
          (subst (λ (xs : List Record). IsUnion (take c.len-unsigned.result signed) xs c.settle.new.records.items) behind c.in_ok-settle.ensures.ok);
    }

pub returns-in_err-settle-clause-asks : goal.returns-in_err-settle-clause-asks
returns-in_err-settle-clause-asks g c =
    let period = period_of c.args.config.now in
    let sets = map (set_at c.args.records.now.items) c.args.sets.now in
    let old = all_asked g.I.SignRaw.key g.I.SignRaw.asked g.I.SignRaw.given c.args.keys.now in
    let new = all_asked g.I.SignRaw.key g.I.SignRaw.asked g.I.SignRaw.given c.sign_behind.new.keys in
    asks_as period sets old new c.from_residual.result sign.NoMemory (search rules) (asked_at_most period sets old new c.in_default.ensures.asks)
