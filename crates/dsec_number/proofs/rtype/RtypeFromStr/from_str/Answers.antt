-- The number that was looked up is that of the text, by the table of types.
use Rattle.std.proofs.Common.{ℕ, List, Option, subst}
use Rattle.std.specs.Prelude.{codes}
use Rattle.dsec_number.specs.Words.{Words, IsNumberOf, type_words}
use Rattle.dsec_number.proofs.rtype.RtypeFromStr.from_str.Goals as goal

pub returns-in-Some : goal.returns-in-Some
returns-in-Some c =
    let by_table = subst (λ (words : Words). IsNumberOf words (codes "TYPE") c.as_bytes.result.now c.number.result) c.rows.ensures c.number.ensures in
    let by_text = subst (λ (text : List ℕ). IsNumberOf type_words (codes "TYPE") text c.number.result) c.as_bytes.ensures.value by_table in
    subst (λ (number : Option ℕ). IsNumberOf type_words (codes "TYPE") c.args.text.now number) c.in-Some.is by_text

pub returns-in-None : goal.returns-in-None
returns-in-None c =
    let by_table = subst (λ (words : Words). IsNumberOf words (codes "TYPE") c.as_bytes.result.now c.number.result) c.rows.ensures c.number.ensures in
    let by_text = subst (λ (text : List ℕ). IsNumberOf type_words (codes "TYPE") text c.number.result) c.as_bytes.ensures.value by_table in
    subst (λ (number : Option ℕ). IsNumberOf type_words (codes "TYPE") c.args.text.now number) c.in-None.is by_text
