-- What the numbers of link types stand for (the registry of link types of the tcpdump group).
use Rattle.std.specs.Prelude.{ℕ, ◌==◌, ◌||◌, Bool, Option, Some, None, if◌then◌else◌}
use Rattle.pcef_capture_file.specs.declared.link.Link.{Link}
use Rattle.pcef_capture_file.specs.declared.link.Link.TheVariants.{Null, Ethernet, Raw, Loop, LinuxCooked, LinuxCooked2}

-- raw packets: two old numbers of systems, one for any version, and one for each version
abbrev pub is_raw : ℕ → Bool
is_raw n = (n == 12) || ((n == 14) || ((n == 101) || ((n == 228) || (n == 229))))

abbrev pub link_of : ℕ → Option Link
link_of n =
    if n == 0 then Some Null
    else if n == 1 then Some Ethernet
    else if is_raw n then Some Raw
    else if n == 108 then Some Loop
    else if n == 113 then Some LinuxCooked
    else if n == 276 then Some LinuxCooked2
    else None
