-- The masks of a loop, for what the code has of a test, and their looplets.
use Rattle.std.specs.Prelude.{ℕ, Option, option_map}
use Rattle.fin_read.specs.Values.{Heads, value_code}
use Rattle.fin_nest.specs.declared.entries.Numbered.{Numbered}
use Rattle.fin_drive.specs.Looplets.{mask_looplet}
use Rattle.fin_enter.specs.declared.masks.MaskTest.{MaskTest}
use Rattle.fin_enter.specs.Masked.{Tested, tested}

abbrev pub as_tested_one : MaskTest → Tested
as_tested_one m = tested m.test m.op m.bare_first m.bound.now

abbrev pub as_tested : Option MaskTest → Option Tested
as_tested m = option_map as_tested_one m

-- the looplet of a mask, by the number of its test
abbrev pub numbered_mask : Heads → Tested → ℕ → Numbered
numbered_mask h t next = record { number = t.test; looplet = mask_looplet t.op t.bare_first (value_code h t.bound next).value }
