-- What the entry of a loop gives: the looplets of its nest under their numbers, and the nest with them.
use Rattle.std.specs.Prelude.{◌≡◌, ℕ, ◌+◌, Bool, true, false, ◌++◌, map, pos}
use Rattle.fin_ir.specs.declared.expression.IExpr.{IExpr}
use Rattle.fin_ir.specs.declared.expression.IExpr.TheVariants.{Local, Num}
use Rattle.fin_nest.specs.Entries.{looplets, numbers}
use Rattle.fin_simp.specs.Rest.{Access}
use Rattle.fin_style_point.specs.declared.nest.Nest as point
use Rattle.fin_enter.specs.declared.entrance.Entrance.{Entrance}
use Rattle.fin_enter.specs.Masked.{Tested, tested_among}
use Rattle.fin_loops.specs.Loops.{Loop, rest_entered}
use Rattle.fin_loops.specs.Parallel.{range_in}
use Rattle.fin_loops.specs.Tops.{looplets_from, own_end}
use Rattle.fin_stmts.specs.declared.entered.Site.{Site}
use Rattle.fin_stmts.specs.Sites.{loop_of}

-- reads in the order of the text, and then masks; and the first local behind those of the entry
pub record IsEntrance (l : Loop) (next : ℕ) (e : Entrance) : Type 0 where
  pub looplets_are : looplets e.reads ++ looplets e.masks ≡ looplets_from l next
  pub reads : numbers e.reads ≡ map (λ (a : Access). a.read) (rest_entered l).reads
  pub masks : numbers e.masks ≡ map (λ (t : Tested). t.test) (tested_among l.var (rest_entered l).tests)
  pub next_is : e.next ≡ own_end l next

-- a number, or the local that has it for a chunk
abbrev pub end_of : Bool → ℕ → ℕ → IExpr
end_of true local number = Local local
end_of false local number = Num (pos number)

-- over the range, or over a chunk whose ends are in the two locals behind those of the entry
pub record IsNestOf (s : Site) (e : Entrance) (n : point.Nest) : Type 0 where
  pub var : n.var ≡ s.one.var
  pub reads : n.reads ≡ e.reads
  pub masks : n.masks ≡ e.masks
  pub next : n.next ≡ e.next + 2
  pub lo : n.lo ≡ end_of s.one.par e.next (range_in (loop_of s)).0
  pub hi : n.hi ≡ end_of s.one.par (e.next + 1) (range_in (loop_of s)).1
