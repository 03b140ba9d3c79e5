-- `field::field_code` meets its contract, row by row. Assumes nothing.
use mathlib.Core.Path.{◌≡◌, sym, ap, ◌∙◌}
use mathlib.Core.Bool.{true, not}
use borrow.Author.Tests.{eq-eqb, ne_eqb}
use Rattle.lists.proofs.Tests.{and_left, stop, pass}
use Rattle.parameters.specs.Parameters.{channel_known}
use Rattle.layout.specs.Layout.{valid_points}
use Rattle.field.specs.declared.field.Field.{Field}
use Rattle.field.specs.Answer.{field_known, code_answer}
use Rattle.field.specs.inner.Read.{read_code}
use Rattle.field.proofs.Read.{read_is}
use Rattle.std.specs.Prelude.{Ok}
use Rattle.field.proofs.field_code.Goals as goal

pub returns-then-not-known : goal.returns-then-not-known
unfolding code_answer
returns-then-not-known c = sym (stop _ (sym (ap not c.known.ensures) ∙ (ap not c.if-not-known.true)))

-- the row that accepts stands first: what it needs of the number of bytes is the first thing to fail where the test is another
pub returns : goal.returns
unfolding code_answer
returns c =
    let known_so : let a = c.args in field_known a.layout a.channel ≡ true = sym c.known.ensures ∙ c.if-not-known.false in
    let a = c.args in
    let field = c.of-field.ensures in
    let count = c.if-bytes-field.false ∙ ap (λ (c : Field). c.count) field in
    sym (pass _ (ap not known_so) (pass _ (ap not (eq-eqb _ _ count)) (ap Ok (sym
    (c.code.ensures ∙ ap (λ (c : Field). read_code c a.bytes.now) field ∙ read_is a.layout a.channel a.bytes.now (and_left (valid_points a.layout) (channel_known a.channel) known_so) count)))))

pub returns-then-bytes-field : goal.returns-then-bytes-field
unfolding code_answer
returns-then-bytes-field c =
    let known_so : let a = c.args in field_known a.layout a.channel ≡ true = sym c.known.ensures ∙ c.if-not-known.false in
    sym (pass _ (ap not known_so) (stop _ (ap not (ne_eqb _ _ (λ e. c.if-bytes-field.true (e ∙ sym (ap (λ (g : Field). g.count) c.of-field.ensures)))))))
