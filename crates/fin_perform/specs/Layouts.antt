-- The layout of a program's tensors, with some number of locals, and what runs over it begin with.
use Rattle.std.specs.Prelude.{ℕ, List, map, length}
use Rattle.fin_tensor.specs.declared.storage.Storage.{Storage}
use Rattle.fin_ast.specs.declared.header.Header.{Header}
use Rattle.fin_ast.specs.declared.header.Kind.{Kind}
use Rattle.fin_ast.specs.declared.header.Kind.TheVariants.{Input, Output, Local}
use Rattle.fin_ast.specs.declared.checked.Checked.{Checked}
use Rattle.fin_ast.specs.Dense.{setting_of}
use Rattle.fin_ir.specs.declared.layout.Layout.{Layout}
use Rattle.fin_ir.specs.Machine.{Machine}
use Rattle.fin_ir.specs.Start.{started}
use Rattle.fin_read.specs.Values.{Heads, heads_of}
use Rattle.fin_nest.specs.Related.{Start}

-- how a layout tells the kinds
abbrev pub kind_number : Kind → ℕ
kind_number Input = 0
kind_number Output = 1
kind_number Local = 2

abbrev pub heads_in : Checked → Heads
heads_in c = heads_of c.program.headers c.dims.shapes

-- a local for each variable
abbrev pub variables_in : Checked → ℕ
variables_in c = length c.dims.ranges

-- with so many locals
abbrev pub layout_with : Checked → ℕ → Layout
layout_with c room = record {
  formats = map (λ (h : Header). h.format) c.program.headers;
  shapes = c.dims.shapes;
  kinds = map (λ (h : Header). kind_number h.kind) c.program.headers;
  locals = room;
}

abbrev pub begun_with : Checked → ℕ → List Storage → Machine
begun_with c room inputs = started (layout_with c room) inputs

-- what its run by stages and the machine of its code begin with
abbrev pub start_with : Checked → ℕ → List Storage → Start
start_with c room inputs = record { layout = layout_with c room; setting = setting_of c inputs; first = begun_with c room inputs }
