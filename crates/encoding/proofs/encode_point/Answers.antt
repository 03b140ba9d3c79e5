-- `encoding::encode_point` meets its contract: it is the line of one point, where points are of their own. Assumes nothing.
use mathlib.Core.Path.{◌≡◌, refl, sym, ap, ◌∙◌}
use mathlib.Core.Bool.{false}
use Rattle.lists.specs.Lists.{new_or_kept}
use Rattle.lists.proofs.Tests.{pass, stop}
use Rattle.layout.specs.Layout.{grouped}
use Rattle.line.specs.Line.{packed_of, point_values}
use Rattle.line.proofs.Answers.{refuses}
use Rattle.line_values.specs.Encode.{quantized_of, encode_point_answer}
use Rattle.std.specs.Prelude.{Result, Err, is_ok, ℕ}
use Rattle.refusal.specs.declared.Refusal.{Refusal}
use Rattle.refusal.specs.declared.Refusal.TheVariants.{Outside}
use Rattle.encoding.proofs.encode_point.Goals as goal

pub returns-then-grouped : goal.returns-then-grouped
unfolding encode_point_answer
returns-then-grouped c =
    let done =
    refuses _ _ (stop _ (sym c.grouped.ensures ∙ c.if-grouped.true)) in
    record { answer = done.0; memory = done.1 }

pub returns-else-grouped : goal.returns-else-grouped
unfolding encode_point_answer
returns-else-grouped c =
    let own : grouped c.args.layout ≡ false = sym c.grouped.ensures ∙ c.if-grouped.false in
    let e = own in
    let r = c.encode_points.ensures in
    let a = c.args in
    let same = sym (pass (Err Outside) e refl) in
    let packed = packed_of a.layout (quantized_of a.layout (point_values a.point)) in
    record { answer = r.answer ∙ pass _ e refl ∙ same; memory = r.memory ∙ pass _ e refl ∙ ap (λ (x : Result (ℕ × ℕ) Refusal). new_or_kept (is_ok x) packed a.out.now) same }
