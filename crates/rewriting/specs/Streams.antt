-- What a source means.
--     Stream                      its remaining events, each under its number, its ending and its depth
--     deeper d                    the depth of a layer over a source of depth d
--     over o src                  the stream src, or what is left of it once the fault o was met: no event, and that fault
use Rattle.std.specs.Prelude.{ℕ, ◌+◌, min, List, [], Some, None, Option, Err}
use Rattle.refusals.specs.Faults.{Ending}
use Rattle.refusals.specs.declared.fault.Fault.{Fault}
use Rattle.receipts.specs.Histories.{Entry}

pub record Stream : Type 0 where
  pub entries : List Entry
  pub ending : Ending
  pub depth : ℕ

abbrev pub deeper : ℕ → ℕ
deeper d = min (d + 1) 65535

abbrev pub over : Option Fault → Stream → Stream
over None src = src
over (Some f) src = record { entries = []; ending = Err f; depth = src.depth }
