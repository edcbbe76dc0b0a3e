-- Storages whose numbers are words.
use Rattle.std.specs.Prelude.{ℕ, Bool, ◌&&◌, List}
use Rattle.std.specs.List.{list_all}
use Rattle.fin_tensor.specs.declared.storage.Storage.{Storage}
use Rattle.fin_text.specs.declared.read.Given.{Given}
use Rattle.fin_ast.specs.Literals.{is_word}

-- the fill and the values of a storage are words
abbrev pub has_words : Storage → Bool
has_words s = is_word s.format.fill && list_all is_word s.val

-- those of each storage
abbrev pub are_worded : List Storage → Bool
are_worded inputs = list_all has_words inputs

-- those of each tensor that a text tells, by their names
abbrev pub are_told_in_words : List (List ℕ × Given) → Bool
are_told_in_words given = list_all (λ (e : List ℕ × Given). has_words e.1.storage) given
