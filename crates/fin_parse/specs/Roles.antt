-- What names do in the forms of the grammar.
use Rattle.std.specs.Prelude.{ℕ}
use Rattle.fin_parse.specs.declared.grammar.Form.{Form}
use Rattle.fin_parse.specs.declared.grammar.Form.TheVariants as form
use Rattle.fin_parse.specs.declared.roles.Role.{Role}
use Rattle.fin_parse.specs.declared.roles.Role.TheVariants.{LoopName, LetName, Changed, Turned, Operand, IndexName, LooseName, AddedName, Other}
use Rattle.fin_parse.specs.declared.roles.Counting.{Counting}
use Rattle.fin_parse.specs.declared.roles.Counting.TheVariants.{Never, Second, Single, Sum}

abbrev pub role_of : Form → Role
role_of form.Turns = LoopName
role_of form.Let = LetName
role_of form.Named = Changed
role_of form.Turn = Turned
role_of form.NamedOperand = Operand
role_of form.Shifted = IndexName
role_of form.LooseNamed = LooseName
role_of form.AddedName = AddedName
role_of _ = Other

-- where the name of a form stands
abbrev pub name_place : Role → ℕ
name_place LoopName = 0
name_place LetName = 1
name_place Changed = 0
name_place Turned = 1
name_place Operand = 0
name_place IndexName = 0
name_place LooseName = 0
name_place AddedName = 0
name_place Other = 0

-- the place from which the parts of a form stand in its own scope
abbrev pub inner_from : Role → ℕ
inner_from LoopName = 0
inner_from LetName = 4
inner_from Changed = 0
inner_from Turned = 0
inner_from Operand = 0
inner_from IndexName = 0
inner_from LooseName = 0
inner_from AddedName = 0
inner_from Other = 0

abbrev pub counting_of : Form → Counting
counting_of form.Declaration = Never
counting_of form.Update = Second
counting_of form.Constant = Single
counting_of form.Shifted = Single
counting_of form.BareIndex = Single
counting_of form.ProtocolIndex = Single
counting_of _ = Sum
