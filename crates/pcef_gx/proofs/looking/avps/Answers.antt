use Rattle.std.proofs.Common.{◌∙◌, ap, arith, length, map}
use Rattle.pcef_diameter.specs.Avps.{shown}
use Rattle.pcef_gx.proofs.Groups.{read_as, within}
use Rattle.pcef_gx.proofs.looking.avps.Goals as goal

pub returns-in-Some : goal.returns-in-Some
returns-in-Some c =
    let octets = c.args.octets.now in
    let read = c.in_ok-read.read in
    let w = within (length octets) octets (map shown read.avps.items) read.rest.now read.fault (omega arith) c.in_ok-read.ensures in
    rw (c.fault.ensures, c.problem_of.ensures, c.example.ensures, c.code_in.ensures) (w ∙ ap (read_as (map shown read.avps.items) read.rest.now) c.in-Some.is)

pub returns : goal.returns
returns c =
    let octets = c.args.octets.now in
    let read = c.in_ok-read.read in
    let w = within (length octets) octets (map shown read.avps.items) read.rest.now read.fault (omega arith) c.in_ok-read.ensures in
    w ∙ ap (read_as (map shown read.avps.items) read.rest.now) c.in-None.is
