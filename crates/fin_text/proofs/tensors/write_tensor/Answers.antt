use Rattle.std.proofs.Common.{◌≡◌, ◌++◌, ℕ, List, [], ap, ◌∙◌, subst, sym, map, length, ◌<◌}
use Rattle.std.proofs.lemmas.List.{append-nil}
use Rattle.std.specs.Io.KnownBytes.{Appends}
use Rattle.std.proofs.KnownBytes.{Appends-nil}
use Rattle.fin_ports.specs.Bytes.{PutsFront}
use Rattle.fin_text.specs.Pieces.{line_text}
use Rattle.fin_text.specs.Tensors.{tensor_text}
use Rattle.fin_text.specs.Text.{text_of_lines}
use Rattle.fin_text.specs.declared.pieces.Line.{Line}
use Rattle.fin_tensor.specs.declared.storage.Storage.{Storage}
use Rattle.fin_text.specs.Tensors.{name_line, tensor_lines}
use Rattle.fin_text.proofs.TensorLines.{some_text}
use Rattle.fin_text.proofs.Waiting.{at_failure, part_of_front, part_put, all_put}
use Rattle.fin_text.proofs.tensors.write_tensor.Goals as goal

-- what is put is the text
whole : (name : List ℕ) (s : Storage) (waiting : List ℕ) (lines ls : List Line) → waiting ≡ [] → ls ≡ lines → map line_text lines ≡ tensor_lines name s → tensor_text name s ≡ waiting ++ text_of_lines (map line_text ls)
unfolding tensor_text
whole name s waiting lines ls e f g = sym (ap (λ w. w ++ text_of_lines (map line_text ls)) e ∙ ap (λ m. text_of_lines (map line_text m)) f ∙ ap text_of_lines g)

-- which is never empty
some : (name : List ℕ) (s : Storage) → 0 < length (tensor_text name s)
unfolding tensor_text
some name s = some_text (name_line name) _

pub returns-in_err-lines-clause-bytes : goal.returns-in_err-lines-clause-bytes
returns-in_err-lines-clause-bytes g c =
    at_failure _ c.from_residual.result c.from_residual.ensures.0 (0, some c.args.name.now c.args.storage.now, Appends-nil _)

pub returns-in_err-put_lines-clause-bytes : goal.returns-in_err-put_lines-clause-bytes
returns-in_err-put_lines-clause-bytes g c =
    let all = whole c.args.name.now c.args.storage.now _ _ _ c.new-waiting.ensures.items c.deref.ensures.value c.in_ok-lines.ensures in
    at_failure _ c.from_residual-in_err-put_lines.result c.from_residual-in_err-put_lines.ensures.0
    (part_of_front _ _ _ [] _ (all ∙ sym (append-nil _)) c.in_err-put_lines.ensures.bytes)

pub returns-in_err-put_all-clause-bytes : goal.returns-in_err-put_all-clause-bytes
returns-in_err-put_all-clause-bytes g c =
    let all = whole c.args.name.now c.args.storage.now _ _ _ c.new-waiting.ensures.items c.deref.ensures.value c.in_ok-lines.ensures in
    at_failure _ c.from_residual-in_err-put_all.result c.from_residual-in_err-put_all.ensures.0
    (part_put _ _ _ _ _ [] _ (all ∙ sym (append-nil _)) c.in_ok-put_lines.ensures.bytes (subst (PutsFront _ _) c.deref-2.ensures.value c.in_err-put_all.ensures.bytes))

pub returns-clause-bytes : goal.returns-clause-bytes
returns-clause-bytes g c =
    let all = whole c.args.name.now c.args.storage.now _ _ _ c.new-waiting.ensures.items c.deref.ensures.value c.in_ok-lines.ensures in
    subst (Appends _ _) (sym all) (all_put _ _ _ _ _ c.in_ok-put_lines.ensures.bytes (rw c.deref-2.ensures.value at c.in_ok-put_all.ensures.bytes))
