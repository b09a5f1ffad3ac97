-- What callers see of what is kept of CCRs.
use Rattle.std.specs.Prelude.{option_map}
use Rattle.pcef_gx_dialogue.specs.Ccrs as ccrs
use Rattle.pcef_gx_dialogue.specs.declared.ccr.Out.{Out}
use Rattle.pcef_gx_dialogue.specs.declared.ccr.Ccrs.TheInside.{Inside}

abbrev pub out_of : Out → ccrs.Out
out_of o = record {
  kind = o.kind;
  number = o.number;
  hop_by_hop = o.hop_by_hop;
  end_to_end = o.end_to_end;
  past = o.past;
  message = o.message.items;
}

abbrev pub ccrs_of : Inside → ccrs.Ccrs
ccrs_of c = record { next = c.next; told = c.told; out = option_map out_of c.out }
