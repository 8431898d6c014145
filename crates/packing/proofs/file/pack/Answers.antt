use Rattle.std.proofs.Common.{◌≡◌, rules, sym, ◌∙◌}
use Rattle.packing.proofs.Listing.{from_slice, packed_by, packed_told, packed_means}
use Rattle.packing.proofs.file.pack.Goals as goal

pub returns : goal.returns
returns g c =
    let pair = g.P.Payload.pair in
    let kind = g.P.Payload.kind in
    let text = c.args.text.now in
    let side = c.args.side in
    let count = c.len-count.result in
    let wrote = c.write.result in
    let vs = c.as_slice.result.now in
    let col = from_slice pair vs c.in-Ok.events _ _ _ c.as_slice.ensures.value c.in-Ok.is c.in_ok-events.ensures c.new-reader.ensures.value in
    let told : c.map_err-packed.result ≡ packed_by side count wrote = search rules in
    record {
      value =
          packed_told pair kind text vs col side c.args.out.now c.write.new.out wrote _ count told
          c.write.ensures.value (c.len-count.ensures ∙ sym c.as_slice.ensures.len);
      exact = packed_means pair kind text vs col side c.write.new.out wrote _ count told c.write.ensures.exact;
    }
