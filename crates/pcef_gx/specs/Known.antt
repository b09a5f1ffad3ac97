-- Which AVPs are known: a mandatory one that isn't refuses its message (RFC 6733, clause 4.1).
use Rattle.std.specs.Prelude.{ℕ, ◌==◌, ◌&&◌, Bool, List, [], ◌∷◌, if◌then◌else◌}
use Rattle.std.specs.List.{list_any}
use Rattle.pcef_gx.specs.declared.code.Code.{Code}

-- the IETF's: those of the base (RFC 6733, clause 4.5), those of credit control (RFC 8506, clause 8), and those of
-- network access that a CCR has (TS 29.212, clause 5.4)
abbrev pub of_ietf : List ℕ
of_ietf =
    1 ∷ 4 ∷ 5 ∷ 8 ∷ 25 ∷ 27 ∷ 30 ∷ 31 ∷ 33 ∷ 44 ∷ 55 ∷ 97 ∷ 257 ∷ 258 ∷ 259 ∷ 260 ∷ 261 ∷ 262 ∷ 263 ∷ 264 ∷
    265 ∷ 266 ∷ 267 ∷ 268 ∷ 269 ∷ 270 ∷ 271 ∷ 272 ∷ 273 ∷ 274 ∷ 276 ∷ 277 ∷ 278 ∷ 279 ∷ 280 ∷ 281 ∷ 282 ∷ 283 ∷ 284 ∷
    285 ∷ 287 ∷ 291 ∷ 292 ∷ 293 ∷ 294 ∷ 295 ∷ 296 ∷ 297 ∷ 298 ∷ 299 ∷ 412 ∷ 414 ∷ 415 ∷ 416 ∷ 417 ∷ 418 ∷ 420 ∷
    421 ∷ 431 ∷ 432 ∷ 439 ∷ 443 ∷ 444 ∷ 446 ∷ 450 ∷ 452 ∷ 454 ∷ 458 ∷ 459 ∷ 460 ∷ 461 ∷ []

-- 3GPP's: those of Gx (TS 29.212, clause 5.3), and those of other interfaces that Gx uses (clause 5.4)
abbrev pub of_3gpp : List ℕ
of_3gpp =
    6 ∷ 13 ∷ 15 ∷ 18 ∷ 20 ∷ 21 ∷ 22 ∷ 23 ∷ 505 ∷ 507 ∷ 509 ∷ 510 ∷ 511 ∷ 515 ∷ 516 ∷ 517 ∷ 518 ∷ 531 ∷ 532 ∷
    536 ∷ 554 ∷ 555 ∷ 618 ∷ 628 ∷ 629 ∷ 630 ∷ 881 ∷ 1000 ∷ 1001 ∷ 1002 ∷ 1003 ∷ 1004 ∷ 1005 ∷ 1006 ∷ 1007 ∷
    1008 ∷ 1009 ∷ 1010 ∷ 1011 ∷ 1012 ∷ 1013 ∷ 1014 ∷ 1015 ∷ 1016 ∷ 1018 ∷ 1019 ∷ 1020 ∷ 1021 ∷ 1022 ∷ 1023 ∷
    1024 ∷ 1025 ∷ 1026 ∷ 1027 ∷ 1028 ∷ 1029 ∷ 1030 ∷ 1031 ∷ 1032 ∷ 1033 ∷ 1034 ∷ 1040 ∷ 1041 ∷ 1042 ∷ 1043 ∷
    1044 ∷ 1045 ∷ 1046 ∷ 1047 ∷ 1048 ∷ 1049 ∷ 1050 ∷ 1056 ∷ 1057 ∷ 1058 ∷ 1059 ∷ 1060 ∷ 1061 ∷ 1062 ∷ 1063 ∷
    1065 ∷ 1066 ∷ 1067 ∷ 1068 ∷ 1069 ∷ 1070 ∷ 1071 ∷ 1072 ∷ 1080 ∷ 1082 ∷ 1085 ∷ 1086 ∷ 1088 ∷ 1099 ∷ 2809 ∷
    2844 ∷ 2848 ∷ 2849 ∷ 2850 ∷ 2851 ∷ []

abbrev pub is_one_of : List ℕ → ℕ → Bool
is_one_of numbers number = list_any (λ n. n == number) numbers

unfoldable pub is_known : Code → Bool
is_known code =
    if code.vendor == 0 then is_one_of of_ietf code.number
    else (code.vendor == 10415) && is_one_of of_3gpp code.number
