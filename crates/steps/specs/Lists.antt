-- Document 02, Wish 6: "Give such lists for 4, 16 and 32 points", of the forward DST-VII. Written by tests/step_lists --write.
use Rattle.std.specs.Prelude.{List, [], ◌∷◌, pos, negsuc}
use Rattle.steps.specs.Steps.{Step, add, sub, mul, StepList}

unfoldable pub steps4 : List Step
steps4 =
    add 4 0 1 ∷ sub 4 4 3 ∷ add 0 0 3 ∷ add 1 1 3 ∷ mul 5 2 (pos 74) ∷ mul 7 0 (pos 29) ∷ mul 6 1 (pos 55) ∷ add 7 7 6 ∷
    add 7 7 5 ∷ mul 8 4 (pos 74) ∷ mul 9 0 (pos 84) ∷ mul 6 1 (negsuc 28) ∷ add 9 9 6 ∷ sub 9 9 5 ∷ mul 10 0 (pos 55) ∷ mul 6 1 (negsuc 83) ∷
    add 10 10 6 ∷ add 10 10 5 ∷ []

unfoldable pub list4 : StepList
list4 = record { inputs = 4; cells = 11; steps = steps4; outs = 7 ∷ 8 ∷ 9 ∷ 10 ∷ [] }

unfoldable pub steps16 : List Step
steps16 =
    add 16 0 9 ∷ sub 16 16 11 ∷ add 17 1 8 ∷ sub 17 17 12 ∷ add 18 2 7 ∷ sub 18 18 13 ∷ add 19 3 6 ∷ sub 19 19 14 ∷
    add 20 4 5 ∷ sub 20 20 15 ∷ add 21 0 1 ∷ sub 21 21 3 ∷ sub 21 21 4 ∷ add 21 21 6 ∷ add 21 21 7 ∷ sub 21 21 9 ∷
    sub 21 21 10 ∷ add 21 21 12 ∷ add 21 21 13 ∷ sub 21 21 15 ∷ add 0 0 11 ∷ add 9 9 11 ∷ add 1 1 12 ∷ add 8 8 12 ∷
    add 2 2 13 ∷ add 7 7 13 ∷ add 3 3 14 ∷ add 6 6 14 ∷ add 4 4 15 ∷ add 5 5 15 ∷ mul 22 10 (pos 77) ∷ mul 24 0 (pos 8) ∷
    mul 23 1 (pos 17) ∷ add 24 24 23 ∷ mul 23 2 (pos 25) ∷ add 24 24 23 ∷ mul 23 3 (pos 33) ∷ add 24 24 23 ∷ mul 23 4 (pos 40) ∷ add 24 24 23 ∷
    mul 23 5 (pos 48) ∷ add 24 24 23 ∷ mul 23 6 (pos 55) ∷ add 24 24 23 ∷ mul 23 7 (pos 62) ∷ add 24 24 23 ∷ mul 23 8 (pos 68) ∷ add 24 24 23 ∷
    mul 23 9 (pos 73) ∷ add 24 24 23 ∷ add 24 24 22 ∷ mul 25 16 (pos 25) ∷ mul 23 17 (pos 48) ∷ add 25 25 23 ∷ mul 23 18 (pos 68) ∷ add 25 25 23 ∷
    mul 23 19 (pos 81) ∷ add 25 25 23 ∷ mul 23 20 (pos 88) ∷ add 25 25 23 ∷ mul 26 0 (pos 40) ∷ mul 23 1 (pos 73) ∷ add 26 26 23 ∷ mul 23 2 (pos 88) ∷
    add 26 26 23 ∷ mul 23 3 (pos 85) ∷ add 26 26 23 ∷ mul 23 4 (pos 62) ∷ add 26 26 23 ∷ mul 23 5 (pos 25) ∷ add 26 26 23 ∷ mul 23 6 (negsuc 16) ∷
    add 26 26 23 ∷ mul 23 7 (negsuc 54) ∷ add 26 26 23 ∷ mul 23 8 (negsuc 80) ∷ add 26 26 23 ∷ mul 23 9 (negsuc 87) ∷ add 26 26 23 ∷ sub 26 26 22 ∷
    mul 27 0 (pos 55) ∷ mul 23 1 (pos 87) ∷ add 27 27 23 ∷ mul 23 2 (pos 81) ∷ add 27 27 23 ∷ mul 23 3 (pos 40) ∷ add 27 27 23 ∷ mul 23 4 (negsuc 16) ∷
    add 27 27 23 ∷ mul 23 5 (negsuc 67) ∷ add 27 27 23 ∷ mul 23 6 (negsuc 87) ∷ add 27 27 23 ∷ mul 23 7 (negsuc 72) ∷ add 27 27 23 ∷ mul 23 8 (negsuc 24) ∷
    add 27 27 23 ∷ mul 23 9 (pos 33) ∷ add 27 27 23 ∷ add 27 27 22 ∷ mul 28 16 (pos 68) ∷ mul 23 17 (pos 88) ∷ add 28 28 23 ∷ mul 23 18 (pos 48) ∷
    add 28 28 23 ∷ mul 23 19 (negsuc 24) ∷ add 28 28 23 ∷ mul 23 20 (negsuc 80) ∷ add 28 28 23 ∷ mul 29 21 (pos 77) ∷ mul 30 0 (pos 85) ∷ mul 23 1 (pos 55) ∷
    add 30 30 23 ∷ mul 23 2 (negsuc 47) ∷ add 30 30 23 ∷ mul 23 3 (negsuc 86) ∷ add 30 30 23 ∷ mul 23 4 (negsuc 7) ∷ add 30 30 23 ∷ mul 23 5 (pos 81) ∷
    add 30 30 23 ∷ mul 23 6 (pos 62) ∷ add 30 30 23 ∷ mul 23 7 (negsuc 39) ∷ add 30 30 23 ∷ mul 23 8 (negsuc 87) ∷ add 30 30 23 ∷ mul 23 9 (negsuc 16) ∷
    add 30 30 23 ∷ add 30 30 22 ∷ mul 31 16 (pos 88) ∷ mul 23 17 (pos 25) ∷ add 31 31 23 ∷ mul 23 18 (negsuc 80) ∷ add 31 31 23 ∷ mul 23 19 (negsuc 47) ∷
    add 31 31 23 ∷ mul 23 20 (pos 68) ∷ add 31 31 23 ∷ mul 32 0 (pos 88) ∷ mul 23 1 (negsuc 7) ∷ add 32 32 23 ∷ mul 23 2 (negsuc 87) ∷ add 32 32 23 ∷
    mul 23 3 (pos 17) ∷ add 32 32 23 ∷ mul 23 4 (pos 87) ∷ add 32 32 23 ∷ mul 23 5 (negsuc 24) ∷ add 32 32 23 ∷ mul 23 6 (negsuc 84) ∷ add 32 32 23 ∷
    mul 23 7 (pos 33) ∷ add 32 32 23 ∷ mul 23 8 (pos 81) ∷ add 32 32 23 ∷ mul 23 9 (negsuc 39) ∷ add 32 32 23 ∷ sub 32 32 22 ∷ mul 33 0 (pos 87) ∷
    mul 23 1 (negsuc 39) ∷ add 33 33 23 ∷ mul 23 2 (negsuc 67) ∷ add 33 33 23 ∷ mul 23 3 (pos 73) ∷ add 33 33 23 ∷ mul 23 4 (pos 33) ∷ add 33 33 23 ∷
    mul 23 5 (negsuc 87) ∷ add 33 33 23 ∷ mul 23 6 (pos 8) ∷ add 33 33 23 ∷ mul 23 7 (pos 85) ∷ add 33 33 23 ∷ mul 23 8 (negsuc 47) ∷ add 33 33 23 ∷
    mul 23 9 (negsuc 61) ∷ add 33 33 23 ∷ add 33 33 22 ∷ mul 34 16 (pos 81) ∷ mul 23 17 (negsuc 67) ∷ add 34 34 23 ∷ mul 23 18 (negsuc 24) ∷ add 34 34 23 ∷
    mul 23 19 (pos 88) ∷ add 34 34 23 ∷ mul 23 20 (negsuc 47) ∷ add 34 34 23 ∷ mul 35 0 (pos 73) ∷ mul 23 1 (negsuc 84) ∷ add 35 35 23 ∷ mul 23 2 (pos 25) ∷
    add 35 35 23 ∷ mul 23 3 (pos 55) ∷ add 35 35 23 ∷ mul 23 4 (negsuc 87) ∷ add 35 35 23 ∷ mul 23 5 (pos 48) ∷ add 35 35 23 ∷ mul 23 6 (pos 33) ∷
    add 35 35 23 ∷ mul 23 7 (negsuc 86) ∷ add 35 35 23 ∷ mul 23 8 (pos 68) ∷ add 35 35 23 ∷ mul 23 9 (pos 8) ∷ add 35 35 23 ∷ sub 35 35 22 ∷
    mul 36 0 (pos 62) ∷ mul 23 1 (negsuc 87) ∷ add 36 36 23 ∷ mul 23 2 (pos 68) ∷ add 36 36 23 ∷ mul 23 3 (negsuc 7) ∷ add 36 36 23 ∷ mul 23 4 (negsuc 54) ∷
    add 36 36 23 ∷ mul 23 5 (pos 88) ∷ add 36 36 23 ∷ mul 23 6 (negsuc 72) ∷ add 36 36 23 ∷ mul 23 7 (pos 17) ∷ add 36 36 23 ∷ mul 23 8 (pos 48) ∷
    add 36 36 23 ∷ mul 23 9 (negsuc 86) ∷ add 36 36 23 ∷ add 36 36 22 ∷ mul 37 16 (pos 48) ∷ mul 23 17 (negsuc 80) ∷ add 37 37 23 ∷ mul 23 18 (pos 88) ∷
    add 37 37 23 ∷ mul 23 19 (negsuc 67) ∷ add 37 37 23 ∷ mul 23 20 (pos 25) ∷ add 37 37 23 ∷ mul 38 0 (pos 33) ∷ mul 23 1 (negsuc 61) ∷ add 38 38 23 ∷
    mul 23 2 (pos 81) ∷ add 38 38 23 ∷ mul 23 3 (negsuc 87) ∷ add 38 38 23 ∷ mul 23 4 (pos 85) ∷ add 38 38 23 ∷ mul 23 5 (negsuc 67) ∷ add 38 38 23 ∷
    mul 23 6 (pos 40) ∷ add 38 38 23 ∷ mul 23 7 (negsuc 7) ∷ add 38 38 23 ∷ mul 23 8 (negsuc 24) ∷ add 38 38 23 ∷ mul 23 9 (pos 55) ∷ add 38 38 23 ∷
    sub 38 38 22 ∷ mul 39 0 (pos 17) ∷ mul 23 1 (negsuc 32) ∷ add 39 39 23 ∷ mul 23 2 (pos 48) ∷ add 39 39 23 ∷ mul 23 3 (negsuc 61) ∷ add 39 39 23 ∷
    mul 23 4 (pos 73) ∷ add 39 39 23 ∷ mul 23 5 (negsuc 80) ∷ add 39 39 23 ∷ mul 23 6 (pos 87) ∷ add 39 39 23 ∷ mul 23 7 (negsuc 87) ∷ add 39 39 23 ∷
    mul 23 8 (pos 88) ∷ add 39 39 23 ∷ mul 23 9 (negsuc 84) ∷ add 39 39 23 ∷ add 39 39 22 ∷ []

unfoldable pub list16 : StepList
list16 = record { inputs = 16; cells = 40; steps = steps16; outs = 24 ∷ 25 ∷ 26 ∷ 27 ∷ 28 ∷ 29 ∷ 30 ∷ 31 ∷ 32 ∷ 33 ∷ 34 ∷ 35 ∷ 36 ∷ 37 ∷ 38 ∷ 39 ∷ [] }

unfoldable pub steps32 : List Step
steps32 =
    add 32 0 11 ∷ sub 32 32 13 ∷ sub 32 32 24 ∷ add 32 32 26 ∷ add 33 1 10 ∷ sub 33 33 14 ∷ sub 33 33 23 ∷ add 33 33 27 ∷
    add 34 2 9 ∷ sub 34 34 15 ∷ sub 34 34 22 ∷ add 34 34 28 ∷ add 35 3 8 ∷ sub 35 35 16 ∷ sub 35 35 21 ∷ add 35 35 29 ∷
    add 36 4 7 ∷ sub 36 36 17 ∷ sub 36 36 20 ∷ add 36 36 30 ∷ add 37 5 6 ∷ sub 37 37 18 ∷ sub 37 37 19 ∷ add 37 37 31 ∷
    add 38 0 3 ∷ sub 38 38 5 ∷ sub 38 38 8 ∷ add 38 38 10 ∷ add 38 38 13 ∷ sub 38 38 15 ∷ sub 38 38 18 ∷ add 38 38 20 ∷
    add 38 38 23 ∷ sub 38 38 25 ∷ sub 38 38 28 ∷ add 38 38 30 ∷ add 39 1 2 ∷ sub 39 39 6 ∷ sub 39 39 7 ∷ add 39 39 11 ∷
    add 39 39 12 ∷ sub 39 39 16 ∷ sub 39 39 17 ∷ add 39 39 21 ∷ add 39 39 22 ∷ sub 39 39 26 ∷ sub 39 39 27 ∷ add 39 39 31 ∷
    sub 0 0 26 ∷ sub 11 11 26 ∷ add 13 13 26 ∷ add 24 24 26 ∷ sub 1 1 27 ∷ sub 10 10 27 ∷ add 14 14 27 ∷ add 23 23 27 ∷
    sub 2 2 28 ∷ sub 9 9 28 ∷ add 15 15 28 ∷ add 22 22 28 ∷ sub 3 3 29 ∷ sub 8 8 29 ∷ add 16 16 29 ∷ add 21 21 29 ∷
    sub 4 4 30 ∷ sub 7 7 30 ∷ add 17 17 30 ∷ add 20 20 30 ∷ sub 5 5 31 ∷ sub 6 6 31 ∷ add 18 18 31 ∷ add 19 19 31 ∷
    mul 40 12 (pos 53) ∷ mul 41 25 (pos 85) ∷ add 42 40 41 ∷ mul 43 12 (pos 85) ∷ mul 44 25 (pos 53) ∷ sub 45 43 44 ∷ mul 47 0 (pos 4) ∷ mul 46 1 (pos 9) ∷
    add 47 47 46 ∷ mul 46 2 (pos 13) ∷ add 47 47 46 ∷ mul 46 3 (pos 17) ∷ add 47 47 46 ∷ mul 46 4 (pos 21) ∷ add 47 47 46 ∷ mul 46 5 (pos 26) ∷
    add 47 47 46 ∷ mul 46 6 (pos 30) ∷ add 47 47 46 ∷ mul 46 7 (pos 34) ∷ add 47 47 46 ∷ mul 46 8 (pos 38) ∷ add 47 47 46 ∷ mul 46 9 (pos 42) ∷
    add 47 47 46 ∷ mul 46 10 (pos 46) ∷ add 47 47 46 ∷ mul 46 11 (pos 50) ∷ add 47 47 46 ∷ mul 46 13 (pos 56) ∷ add 47 47 46 ∷ mul 46 14 (pos 60) ∷
    add 47 47 46 ∷ mul 46 15 (pos 63) ∷ add 47 47 46 ∷ mul 46 16 (pos 66) ∷ add 47 47 46 ∷ mul 46 17 (pos 68) ∷ add 47 47 46 ∷ mul 46 18 (pos 72) ∷
    add 47 47 46 ∷ mul 46 19 (pos 74) ∷ add 47 47 46 ∷ mul 46 20 (pos 77) ∷ add 47 47 46 ∷ mul 46 21 (pos 78) ∷ add 47 47 46 ∷ mul 46 22 (pos 80) ∷
    add 47 47 46 ∷ mul 46 23 (pos 82) ∷ add 47 47 46 ∷ mul 46 24 (pos 84) ∷ add 47 47 46 ∷ add 47 47 42 ∷ mul 48 0 (pos 13) ∷ mul 46 1 (pos 26) ∷
    add 48 48 46 ∷ mul 46 2 (pos 38) ∷ add 48 48 46 ∷ mul 46 3 (pos 50) ∷ add 48 48 46 ∷ mul 46 4 (pos 60) ∷ add 48 48 46 ∷ mul 46 5 (pos 68) ∷
    add 48 48 46 ∷ mul 46 6 (pos 77) ∷ add 48 48 46 ∷ mul 46 7 (pos 82) ∷ add 48 48 46 ∷ mul 46 8 (pos 86) ∷ add 48 48 46 ∷ mul 46 9 (pos 89) ∷
    add 48 48 46 ∷ mul 46 10 (pos 90) ∷ add 48 48 46 ∷ mul 46 11 (pos 88) ∷ add 48 48 46 ∷ mul 46 13 (pos 80) ∷ add 48 48 46 ∷ mul 46 14 (pos 74) ∷
    add 48 48 46 ∷ mul 46 15 (pos 66) ∷ add 48 48 46 ∷ mul 46 16 (pos 56) ∷ add 48 48 46 ∷ mul 46 17 (pos 46) ∷ add 48 48 46 ∷ mul 46 18 (pos 34) ∷
    add 48 48 46 ∷ mul 46 19 (pos 21) ∷ add 48 48 46 ∷ mul 46 20 (pos 9) ∷ add 48 48 46 ∷ mul 46 21 (negsuc 3) ∷ add 48 48 46 ∷ mul 46 22 (negsuc 16) ∷
    add 48 48 46 ∷ mul 46 23 (negsuc 29) ∷ add 48 48 46 ∷ mul 46 24 (negsuc 41) ∷ add 48 48 46 ∷ add 48 48 45 ∷ mul 49 32 (pos 21) ∷ mul 46 33 (pos 42) ∷
    add 49 49 46 ∷ mul 46 34 (pos 60) ∷ add 49 49 46 ∷ mul 46 35 (pos 74) ∷ add 49 49 46 ∷ mul 46 36 (pos 84) ∷ add 49 49 46 ∷ mul 46 37 (pos 89) ∷
    add 49 49 46 ∷ mul 50 0 (pos 30) ∷ mul 46 1 (pos 56) ∷ add 50 50 46 ∷ mul 46 2 (pos 77) ∷ add 50 50 46 ∷ mul 46 3 (pos 87) ∷ add 50 50 46 ∷
    mul 46 4 (pos 89) ∷ add 50 50 46 ∷ mul 46 5 (pos 80) ∷ add 50 50 46 ∷ mul 46 6 (pos 63) ∷ add 50 50 46 ∷ mul 46 7 (pos 38) ∷ add 50 50 46 ∷
    mul 46 8 (pos 9) ∷ add 50 50 46 ∷ mul 46 9 (negsuc 20) ∷ add 50 50 46 ∷ mul 46 10 (negsuc 49) ∷ add 50 50 46 ∷ mul 46 11 (negsuc 71) ∷ add 50 50 46 ∷
    mul 46 13 (negsuc 89) ∷ add 50 50 46 ∷ mul 46 14 (negsuc 83) ∷ add 50 50 46 ∷ mul 46 15 (negsuc 67) ∷ add 50 50 46 ∷ mul 46 16 (negsuc 45) ∷ add 50 50 46 ∷
    mul 46 17 (negsuc 16) ∷ add 50 50 46 ∷ mul 46 18 (pos 13) ∷ add 50 50 46 ∷ mul 46 19 (pos 42) ∷ add 50 50 46 ∷ mul 46 20 (pos 66) ∷ add 50 50 46 ∷
    mul 46 21 (pos 82) ∷ add 50 50 46 ∷ mul 46 22 (pos 90) ∷ add 50 50 46 ∷ mul 46 23 (pos 86) ∷ add 50 50 46 ∷ mul 46 24 (pos 74) ∷ add 50 50 46 ∷
    sub 50 50 45 ∷ mul 51 0 (pos 38) ∷ mul 46 1 (pos 68) ∷ add 51 51 46 ∷ mul 46 2 (pos 86) ∷ add 51 51 46 ∷ mul 46 3 (pos 88) ∷ add 51 51 46 ∷
    mul 46 4 (pos 74) ∷ add 51 51 46 ∷ mul 46 5 (pos 46) ∷ add 51 51 46 ∷ mul 46 6 (pos 9) ∷ add 51 51 46 ∷ mul 46 7 (negsuc 29) ∷ add 51 51 46 ∷
    mul 46 8 (negsuc 62) ∷ add 51 51 46 ∷ mul 46 9 (negsuc 83) ∷ add 51 51 46 ∷ mul 46 10 (negsuc 89) ∷ add 51 51 46 ∷ mul 46 11 (negsuc 77) ∷ add 51 51 46 ∷
    mul 46 13 (negsuc 16) ∷ add 51 51 46 ∷ mul 46 14 (pos 21) ∷ add 51 51 46 ∷ mul 46 15 (pos 56) ∷ add 51 51 46 ∷ mul 46 16 (pos 80) ∷ add 51 51 46 ∷
    mul 46 17 (pos 90) ∷ add 51 51 46 ∷ mul 46 18 (pos 82) ∷ add 51 51 46 ∷ mul 46 19 (pos 60) ∷ add 51 51 46 ∷ mul 46 20 (pos 26) ∷ add 51 51 46 ∷
    mul 46 21 (negsuc 12) ∷ add 51 51 46 ∷ mul 46 22 (negsuc 49) ∷ add 51 51 46 ∷ mul 46 23 (negsuc 76) ∷ add 51 51 46 ∷ mul 46 24 (negsuc 88) ∷ add 51 51 46 ∷
    sub 51 51 42 ∷ mul 52 0 (pos 46) ∷ mul 46 1 (pos 78) ∷ add 52 52 46 ∷ mul 46 2 (pos 90) ∷ add 52 52 46 ∷ mul 46 3 (pos 77) ∷ add 52 52 46 ∷
    mul 46 4 (pos 42) ∷ add 52 52 46 ∷ mul 46 5 (negsuc 3) ∷ add 52 52 46 ∷ mul 46 6 (negsuc 49) ∷ add 52 52 46 ∷ mul 46 7 (negsuc 79) ∷ add 52 52 46 ∷
    mul 46 8 (negsuc 89) ∷ add 52 52 46 ∷ mul 46 9 (negsuc 73) ∷ add 52 52 46 ∷ mul 46 10 (negsuc 37) ∷ add 52 52 46 ∷ mul 46 11 (pos 9) ∷ add 52 52 46 ∷
    mul 46 13 (pos 82) ∷ add 52 52 46 ∷ mul 46 14 (pos 89) ∷ add 52 52 46 ∷ mul 46 15 (pos 72) ∷ add 52 52 46 ∷ mul 46 16 (pos 34) ∷ add 52 52 46 ∷
    mul 46 17 (negsuc 12) ∷ add 52 52 46 ∷ mul 46 18 (negsuc 55) ∷ add 52 52 46 ∷ mul 46 19 (negsuc 83) ∷ add 52 52 46 ∷ mul 46 20 (negsuc 87) ∷ add 52 52 46 ∷
    mul 46 21 (negsuc 67) ∷ add 52 52 46 ∷ mul 46 22 (negsuc 29) ∷ add 52 52 46 ∷ mul 46 23 (pos 17) ∷ add 52 52 46 ∷ mul 46 24 (pos 60) ∷ add 52 52 46 ∷
    add 52 52 42 ∷ mul 53 38 (pos 53) ∷ mul 46 39 (pos 85) ∷ add 53 53 46 ∷ mul 54 32 (pos 60) ∷ mul 46 33 (pos 89) ∷ add 54 54 46 ∷ mul 46 34 (pos 74) ∷
    add 54 54 46 ∷ mul 46 35 (pos 21) ∷ add 54 54 46 ∷ mul 46 36 (negsuc 41) ∷ add 54 54 46 ∷ mul 46 37 (negsuc 83) ∷ add 54 54 46 ∷ mul 55 0 (pos 66) ∷
    mul 46 1 (pos 90) ∷ add 55 55 46 ∷ mul 46 2 (pos 56) ∷ add 55 55 46 ∷ mul 46 3 (negsuc 12) ∷ add 55 55 46 ∷ mul 46 4 (negsuc 73) ∷ add 55 55 46 ∷
    mul 46 5 (negsuc 86) ∷ add 55 55 46 ∷ mul 46 6 (negsuc 45) ∷ add 55 55 46 ∷ mul 46 7 (pos 26) ∷ add 55 55 46 ∷ mul 46 8 (pos 80) ∷ add 55 55 46 ∷
    mul 46 9 (pos 84) ∷ add 55 55 46 ∷ mul 46 10 (pos 34) ∷ add 55 55 46 ∷ mul 46 11 (negsuc 37) ∷ add 55 55 46 ∷ mul 46 13 (negsuc 77) ∷ add 55 55 46 ∷
    mul 46 14 (negsuc 20) ∷ add 55 55 46 ∷ mul 46 15 (pos 50) ∷ add 55 55 46 ∷ mul 46 16 (pos 88) ∷ add 55 55 46 ∷ mul 46 17 (pos 72) ∷ add 55 55 46 ∷
    mul 46 18 (pos 9) ∷ add 55 55 46 ∷ mul 46 19 (negsuc 59) ∷ add 55 55 46 ∷ mul 46 20 (negsuc 89) ∷ add 55 55 46 ∷ mul 46 21 (negsuc 62) ∷ add 55 55 46 ∷
    mul 46 22 (pos 4) ∷ add 55 55 46 ∷ mul 46 23 (pos 68) ∷ add 55 55 46 ∷ mul 46 24 (pos 89) ∷ add 55 55 46 ∷ sub 55 55 45 ∷ mul 56 0 (pos 72) ∷
    mul 46 1 (pos 86) ∷ add 56 56 46 ∷ mul 46 2 (pos 34) ∷ add 56 56 46 ∷ mul 46 3 (negsuc 45) ∷ add 56 56 46 ∷ mul 46 4 (negsuc 88) ∷ add 56 56 46 ∷
    mul 46 5 (negsuc 62) ∷ add 56 56 46 ∷ mul 46 6 (pos 13) ∷ add 56 56 46 ∷ mul 46 7 (pos 78) ∷ add 56 56 46 ∷ mul 46 8 (pos 82) ∷ add 56 56 46 ∷
    mul 46 9 (pos 21) ∷ add 56 56 46 ∷ mul 46 10 (negsuc 55) ∷ add 56 56 46 ∷ mul 46 11 (negsuc 89) ∷ add 56 56 46 ∷ mul 46 13 (pos 26) ∷ add 56 56 46 ∷
    mul 46 14 (pos 84) ∷ add 56 56 46 ∷ mul 46 15 (pos 77) ∷ add 56 56 46 ∷ mul 46 16 (pos 9) ∷ add 56 56 46 ∷ mul 46 17 (negsuc 65) ∷ add 56 56 46 ∷
    mul 46 18 (negsuc 87) ∷ add 56 56 46 ∷ mul 46 19 (negsuc 41) ∷ add 56 56 46 ∷ mul 46 20 (pos 38) ∷ add 56 56 46 ∷ mul 46 21 (pos 87) ∷ add 56 56 46 ∷
    mul 46 22 (pos 68) ∷ add 56 56 46 ∷ mul 46 23 (negsuc 3) ∷ add 56 56 46 ∷ mul 46 24 (negsuc 73) ∷ add 56 56 46 ∷ sub 56 56 42 ∷ mul 57 0 (pos 77) ∷
    mul 46 1 (pos 80) ∷ add 57 57 46 ∷ mul 46 2 (pos 9) ∷ add 57 57 46 ∷ mul 46 3 (negsuc 71) ∷ add 57 57 46 ∷ mul 46 4 (negsuc 83) ∷ add 57 57 46 ∷
    mul 46 5 (negsuc 16) ∷ add 57 57 46 ∷ mul 46 6 (pos 66) ∷ add 57 57 46 ∷ mul 46 7 (pos 86) ∷ add 57 57 46 ∷ mul 46 8 (pos 26) ∷ add 57 57 46 ∷
    mul 46 9 (negsuc 59) ∷ add 57 57 46 ∷ mul 46 10 (negsuc 87) ∷ add 57 57 46 ∷ mul 46 11 (negsuc 33) ∷ add 57 57 46 ∷ mul 46 13 (pos 90) ∷ add 57 57 46 ∷
    mul 46 14 (pos 42) ∷ add 57 57 46 ∷ mul 46 15 (negsuc 45) ∷ add 57 57 46 ∷ mul 46 16 (negsuc 89) ∷ add 57 57 46 ∷ mul 46 17 (negsuc 49) ∷ add 57 57 46 ∷
    mul 46 18 (pos 38) ∷ add 57 57 46 ∷ mul 46 19 (pos 89) ∷ add 57 57 46 ∷ mul 46 20 (pos 56) ∷ add 57 57 46 ∷ mul 46 21 (negsuc 29) ∷ add 57 57 46 ∷
    mul 46 22 (negsuc 86) ∷ add 57 57 46 ∷ mul 46 23 (negsuc 62) ∷ add 57 57 46 ∷ mul 46 24 (pos 21) ∷ add 57 57 46 ∷ add 57 57 42 ∷ mul 58 0 (pos 80) ∷
    mul 46 1 (pos 72) ∷ add 58 58 46 ∷ mul 46 2 (negsuc 16) ∷ add 58 58 46 ∷ mul 46 3 (negsuc 85) ∷ add 58 58 46 ∷ mul 46 4 (negsuc 59) ∷ add 58 58 46 ∷
    mul 46 5 (pos 34) ∷ add 58 58 46 ∷ mul 46 6 (pos 90) ∷ add 58 58 46 ∷ mul 46 7 (pos 46) ∷ add 58 58 46 ∷ mul 46 8 (negsuc 49) ∷ add 58 58 46 ∷
    mul 46 9 (negsuc 88) ∷ add 58 58 46 ∷ mul 46 10 (negsuc 29) ∷ add 58 58 46 ∷ mul 46 11 (pos 63) ∷ add 58 58 46 ∷ mul 46 13 (pos 13) ∷ add 58 58 46 ∷
    mul 46 14 (negsuc 73) ∷ add 58 58 46 ∷ mul 46 15 (negsuc 77) ∷ add 58 58 46 ∷ mul 46 16 (pos 4) ∷ add 58 58 46 ∷ mul 46 17 (pos 82) ∷ add 58 58 46 ∷
    mul 46 18 (pos 68) ∷ add 58 58 46 ∷ mul 46 19 (negsuc 20) ∷ add 58 58 46 ∷ mul 46 20 (negsuc 86) ∷ add 58 58 46 ∷ mul 46 21 (negsuc 55) ∷ add 58 58 46 ∷
    mul 46 22 (pos 38) ∷ add 58 58 46 ∷ mul 46 23 (pos 90) ∷ add 58 58 46 ∷ mul 46 24 (pos 42) ∷ add 58 58 46 ∷ add 58 58 45 ∷ mul 59 32 (pos 84) ∷
    mul 46 33 (pos 60) ∷ add 59 59 46 ∷ mul 46 34 (negsuc 41) ∷ add 59 59 46 ∷ mul 46 35 (negsuc 88) ∷ add 59 59 46 ∷ mul 46 36 (negsuc 20) ∷ add 59 59 46 ∷
    mul 46 37 (pos 74) ∷ add 59 59 46 ∷ mul 60 0 (pos 86) ∷ mul 46 1 (pos 46) ∷ add 60 60 46 ∷ mul 46 2 (negsuc 62) ∷ add 60 60 46 ∷ mul 46 3 (negsuc 77) ∷
    add 60 60 46 ∷ mul 46 4 (pos 21) ∷ add 60 60 46 ∷ mul 46 5 (pos 90) ∷ add 60 60 46 ∷ mul 46 6 (pos 26) ∷ add 60 60 46 ∷ mul 46 7 (negsuc 76) ∷
    add 60 60 46 ∷ mul 46 8 (negsuc 65) ∷ add 60 60 46 ∷ mul 46 9 (pos 42) ∷ add 60 60 46 ∷ mul 46 10 (pos 87) ∷ add 60 60 46 ∷ mul 46 11 (pos 4) ∷
    add 60 60 46 ∷ mul 46 13 (negsuc 49) ∷ add 60 60 46 ∷ mul 46 14 (pos 60) ∷ add 60 60 46 ∷ mul 46 15 (pos 80) ∷ add 60 60 46 ∷ mul 46 16 (negsuc 16) ∷
    add 60 60 46 ∷ mul 46 17 (negsuc 89) ∷ add 60 60 46 ∷ mul 46 18 (negsuc 29) ∷ add 60 60 46 ∷ mul 46 19 (pos 74) ∷ add 60 60 46 ∷ mul 46 20 (pos 68) ∷
    add 60 60 46 ∷ mul 46 21 (negsuc 37) ∷ add 60 60 46 ∷ mul 46 22 (negsuc 87) ∷ add 60 60 46 ∷ mul 46 23 (negsuc 8) ∷ add 60 60 46 ∷ mul 46 24 (pos 84) ∷
    add 60 60 46 ∷ sub 60 60 45 ∷ mul 61 0 (pos 88) ∷ mul 46 1 (pos 30) ∷ add 61 61 46 ∷ mul 46 2 (negsuc 77) ∷ add 61 61 46 ∷ mul 46 3 (negsuc 55) ∷
    add 61 61 46 ∷ mul 46 4 (pos 60) ∷ add 61 61 46 ∷ mul 46 5 (pos 77) ∷ add 61 61 46 ∷ mul 46 6 (negsuc 33) ∷ add 61 61 46 ∷ mul 46 7 (negsuc 86) ∷
    add 61 61 46 ∷ mul 46 8 (pos 4) ∷ add 61 61 46 ∷ mul 46 9 (pos 89) ∷ add 61 61 46 ∷ mul 46 10 (pos 26) ∷ add 61 61 46 ∷ mul 46 11 (negsuc 79) ∷
    add 61 61 46 ∷ mul 46 13 (pos 63) ∷ add 61 61 46 ∷ mul 46 14 (pos 74) ∷ add 61 61 46 ∷ mul 46 15 (negsuc 37) ∷ add 61 61 46 ∷ mul 46 16 (negsuc 85) ∷
    add 61 61 46 ∷ mul 46 17 (pos 9) ∷ add 61 61 46 ∷ mul 46 18 (pos 90) ∷ add 61 61 46 ∷ mul 46 19 (pos 21) ∷ add 61 61 46 ∷ mul 46 20 (negsuc 81) ∷
    add 61 61 46 ∷ mul 46 21 (negsuc 49) ∷ add 61 61 46 ∷ mul 46 22 (pos 66) ∷ add 61 61 46 ∷ mul 46 23 (pos 72) ∷ add 61 61 46 ∷ mul 46 24 (negsuc 41) ∷
    add 61 61 46 ∷ sub 61 61 42 ∷ mul 62 0 (pos 90) ∷ mul 46 1 (pos 13) ∷ add 62 62 46 ∷ mul 46 2 (negsuc 86) ∷ add 62 62 46 ∷ mul 46 3 (negsuc 25) ∷
    add 62 62 46 ∷ mul 46 4 (pos 84) ∷ add 62 62 46 ∷ mul 46 5 (pos 38) ∷ add 62 62 46 ∷ mul 46 6 (negsuc 77) ∷ add 62 62 46 ∷ mul 46 7 (negsuc 49) ∷
    add 62 62 46 ∷ mul 46 8 (pos 72) ∷ add 62 62 46 ∷ mul 46 9 (pos 60) ∷ add 62 62 46 ∷ mul 46 10 (negsuc 62) ∷ add 62 62 46 ∷ mul 46 11 (negsuc 67) ∷
    add 62 62 46 ∷ mul 46 13 (pos 77) ∷ add 62 62 46 ∷ mul 46 14 (negsuc 41) ∷ add 62 62 46 ∷ mul 46 15 (negsuc 81) ∷ add 62 62 46 ∷ mul 46 16 (pos 30) ∷
    add 62 62 46 ∷ mul 46 17 (pos 86) ∷ add 62 62 46 ∷ mul 46 18 (negsuc 16) ∷ add 62 62 46 ∷ mul 46 19 (negsuc 88) ∷ add 62 62 46 ∷ mul 46 20 (pos 4) ∷
    add 62 62 46 ∷ mul 46 21 (pos 90) ∷ add 62 62 46 ∷ mul 46 22 (pos 9) ∷ add 62 62 46 ∷ mul 46 23 (negsuc 87) ∷ add 62 62 46 ∷ mul 46 24 (negsuc 20) ∷
    add 62 62 46 ∷ add 62 62 42 ∷ mul 63 0 (pos 90) ∷ mul 46 1 (negsuc 3) ∷ add 63 63 46 ∷ mul 46 2 (negsuc 89) ∷ add 63 63 46 ∷ mul 46 3 (pos 9) ∷
    add 63 63 46 ∷ mul 46 4 (pos 89) ∷ add 63 63 46 ∷ mul 46 5 (negsuc 12) ∷ add 63 63 46 ∷ mul 46 6 (negsuc 87) ∷ add 63 63 46 ∷ mul 46 7 (pos 17) ∷
    add 63 63 46 ∷ mul 46 8 (pos 87) ∷ add 63 63 46 ∷ mul 46 9 (negsuc 20) ∷ add 63 63 46 ∷ mul 46 10 (negsuc 85) ∷ add 63 63 46 ∷ mul 46 11 (pos 26) ∷
    add 63 63 46 ∷ mul 46 13 (negsuc 29) ∷ add 63 63 46 ∷ mul 46 14 (negsuc 83) ∷ add 63 63 46 ∷ mul 46 15 (pos 34) ∷ add 63 63 46 ∷ mul 46 16 (pos 82) ∷
    add 63 63 46 ∷ mul 46 17 (negsuc 37) ∷ add 63 63 46 ∷ mul 46 18 (negsuc 79) ∷ add 63 63 46 ∷ mul 46 19 (pos 42) ∷ add 63 63 46 ∷ mul 46 20 (pos 78) ∷
    add 63 63 46 ∷ mul 46 21 (negsuc 45) ∷ add 63 63 46 ∷ mul 46 22 (negsuc 76) ∷ add 63 63 46 ∷ mul 46 23 (pos 50) ∷ add 63 63 46 ∷ mul 46 24 (pos 74) ∷
    add 63 63 46 ∷ add 63 63 45 ∷ mul 64 32 (pos 89) ∷ mul 46 33 (negsuc 20) ∷ add 64 64 46 ∷ mul 46 34 (negsuc 83) ∷ add 64 64 46 ∷ mul 46 35 (pos 42) ∷
    add 64 64 46 ∷ mul 46 36 (pos 74) ∷ add 64 64 46 ∷ mul 46 37 (negsuc 59) ∷ add 64 64 46 ∷ mul 65 0 (pos 87) ∷ mul 46 1 (negsuc 37) ∷ add 65 65 46 ∷
    mul 46 2 (negsuc 71) ∷ add 65 65 46 ∷ mul 46 3 (pos 68) ∷ add 65 65 46 ∷ mul 46 4 (pos 42) ∷ add 65 65 46 ∷ mul 46 5 (negsuc 85) ∷ add 65 65 46 ∷
    mul 46 6 (negsuc 3) ∷ add 65 65 46 ∷ mul 46 7 (pos 88) ∷ add 65 65 46 ∷ mul 46 8 (negsuc 33) ∷ add 65 65 46 ∷ mul 46 9 (negsuc 73) ∷ add 65 65 46 ∷
    mul 46 10 (pos 66) ∷ add 65 65 46 ∷ mul 46 11 (pos 46) ∷ add 65 65 46 ∷ mul 46 13 (negsuc 8) ∷ add 65 65 46 ∷ mul 46 14 (pos 89) ∷ add 65 65 46 ∷
    mul 46 15 (negsuc 29) ∷ add 65 65 46 ∷ mul 46 16 (negsuc 76) ∷ add 65 65 46 ∷ mul 46 17 (pos 63) ∷ add 65 65 46 ∷ mul 46 18 (pos 50) ∷ add 65 65 46 ∷
    mul 46 19 (negsuc 83) ∷ add 65 65 46 ∷ mul 46 20 (negsuc 12) ∷ add 65 65 46 ∷ mul 46 21 (pos 90) ∷ add 65 65 46 ∷ mul 46 22 (negsuc 25) ∷ add 65 65 46 ∷
    mul 46 23 (negsuc 77) ∷ add 65 65 46 ∷ mul 46 24 (pos 60) ∷ add 65 65 46 ∷ sub 65 65 45 ∷ mul 66 38 (pos 85) ∷ mul 46 39 (negsuc 52) ∷ add 66 66 46 ∷
    mul 67 0 (pos 82) ∷ mul 46 1 (negsuc 65) ∷ add 67 67 46 ∷ mul 46 2 (negsuc 29) ∷ add 67 67 46 ∷ mul 46 3 (pos 90) ∷ add 67 67 46 ∷ mul 46 4 (negsuc 41) ∷
    add 67 67 46 ∷ mul 46 5 (negsuc 55) ∷ add 67 67 46 ∷ mul 46 6 (pos 86) ∷ add 67 67 46 ∷ mul 46 7 (negsuc 12) ∷ add 67 67 46 ∷ mul 46 8 (negsuc 76) ∷
    add 67 67 46 ∷ mul 46 9 (pos 74) ∷ add 67 67 46 ∷ mul 46 10 (pos 17) ∷ add 67 67 46 ∷ mul 46 11 (negsuc 86) ∷ add 67 67 46 ∷ mul 46 13 (pos 46) ∷
    add 67 67 46 ∷ mul 46 14 (negsuc 88) ∷ add 67 67 46 ∷ mul 46 15 (pos 26) ∷ add 67 67 46 ∷ mul 46 16 (pos 68) ∷ add 67 67 46 ∷ mul 46 17 (negsuc 79) ∷
    add 67 67 46 ∷ mul 46 18 (negsuc 3) ∷ add 67 67 46 ∷ mul 46 19 (pos 84) ∷ add 67 67 46 ∷ mul 46 20 (negsuc 62) ∷ add 67 67 46 ∷ mul 46 21 (negsuc 33) ∷
    add 67 67 46 ∷ mul 46 22 (pos 90) ∷ add 67 67 46 ∷ mul 46 23 (negsuc 37) ∷ add 67 67 46 ∷ mul 46 24 (negsuc 59) ∷ add 67 67 46 ∷ add 67 67 42 ∷
    mul 68 0 (pos 78) ∷ mul 46 1 (negsuc 76) ∷ add 68 68 46 ∷ mul 46 2 (negsuc 3) ∷ add 68 68 46 ∷ mul 46 3 (pos 80) ∷ add 68 68 46 ∷ mul 46 4 (negsuc 73) ∷
    add 68 68 46 ∷ mul 46 5 (negsuc 8) ∷ add 68 68 46 ∷ mul 46 6 (pos 82) ∷ add 68 68 46 ∷ mul 46 7 (negsuc 71) ∷ add 68 68 46 ∷ mul 46 8 (negsuc 12) ∷
    add 68 68 46 ∷ mul 46 9 (pos 84) ∷ add 68 68 46 ∷ mul 46 10 (negsuc 67) ∷ add 68 68 46 ∷ mul 46 11 (negsuc 16) ∷ add 68 68 46 ∷ mul 46 13 (negsuc 65) ∷
    add 68 68 46 ∷ mul 46 14 (negsuc 20) ∷ add 68 68 46 ∷ mul 46 15 (pos 86) ∷ add 68 68 46 ∷ mul 46 16 (negsuc 62) ∷ add 68 68 46 ∷ mul 46 17 (negsuc 25) ∷
    add 68 68 46 ∷ mul 46 18 (pos 87) ∷ add 68 68 46 ∷ mul 46 19 (negsuc 59) ∷ add 68 68 46 ∷ mul 46 20 (negsuc 29) ∷ add 68 68 46 ∷ mul 46 21 (pos 88) ∷
    add 68 68 46 ∷ mul 46 22 (negsuc 55) ∷ add 68 68 46 ∷ mul 46 23 (negsuc 33) ∷ add 68 68 46 ∷ mul 46 24 (pos 89) ∷ add 68 68 46 ∷ add 68 68 45 ∷
    mul 69 32 (pos 74) ∷ mul 46 33 (negsuc 83) ∷ add 69 69 46 ∷ mul 46 34 (pos 21) ∷ add 69 69 46 ∷ mul 46 35 (pos 60) ∷ add 69 69 46 ∷ mul 46 36 (negsuc 88) ∷
    add 69 69 46 ∷ mul 46 37 (pos 42) ∷ add 69 69 46 ∷ mul 70 0 (pos 68) ∷ mul 46 1 (negsuc 87) ∷ add 70 70 46 ∷ mul 46 2 (pos 46) ∷ add 70 70 46 ∷
    mul 46 3 (pos 30) ∷ add 70 70 46 ∷ mul 46 4 (negsuc 83) ∷ add 70 70 46 ∷ mul 46 5 (pos 78) ∷ add 70 70 46 ∷ mul 46 6 (negsuc 16) ∷ add 70 70 46 ∷
    mul 46 7 (negsuc 55) ∷ add 70 70 46 ∷ mul 46 8 (pos 90) ∷ add 70 70 46 ∷ mul 46 9 (negsuc 59) ∷ add 70 70 46 ∷ mul 46 10 (negsuc 12) ∷ add 70 70 46 ∷
    mul 46 11 (pos 77) ∷ add 70 70 46 ∷ mul 46 13 (pos 34) ∷ add 70 70 46 ∷ mul 46 14 (pos 42) ∷ add 70 70 46 ∷ mul 46 15 (negsuc 86) ∷ add 70 70 46 ∷
    mul 46 16 (pos 72) ∷ add 70 70 46 ∷ mul 46 17 (negsuc 3) ∷ add 70 70 46 ∷ mul 46 18 (negsuc 65) ∷ add 70 70 46 ∷ mul 46 19 (pos 89) ∷ add 70 70 46 ∷
    mul 46 20 (negsuc 49) ∷ add 70 70 46 ∷ mul 46 21 (negsuc 25) ∷ add 70 70 46 ∷ mul 46 22 (pos 82) ∷ add 70 70 46 ∷ mul 46 23 (negsuc 79) ∷ add 70 70 46 ∷
    mul 46 24 (pos 21) ∷ add 70 70 46 ∷ sub 70 70 45 ∷ mul 71 0 (pos 63) ∷ mul 46 1 (negsuc 89) ∷ add 71 71 46 ∷ mul 46 2 (pos 66) ∷ add 71 71 46 ∷
    mul 46 3 (negsuc 3) ∷ add 71 71 46 ∷ mul 46 4 (negsuc 59) ∷ add 71 71 46 ∷ mul 46 5 (pos 90) ∷ add 71 71 46 ∷ mul 46 6 (negsuc 67) ∷ add 71 71 46 ∷
    mul 46 7 (pos 9) ∷ add 71 71 46 ∷ mul 46 8 (pos 56) ∷ add 71 71 46 ∷ mul 46 9 (negsuc 88) ∷ add 71 71 46 ∷ mul 46 10 (pos 72) ∷ add 71 71 46 ∷
    mul 46 11 (negsuc 12) ∷ add 71 71 46 ∷ mul 46 13 (pos 88) ∷ add 71 71 46 ∷ mul 46 14 (negsuc 73) ∷ add 71 71 46 ∷ mul 46 15 (pos 17) ∷ add 71 71 46 ∷
    mul 46 16 (pos 50) ∷ add 71 71 46 ∷ mul 46 17 (negsuc 86) ∷ add 71 71 46 ∷ mul 46 18 (pos 77) ∷ add 71 71 46 ∷ mul 46 19 (negsuc 20) ∷ add 71 71 46 ∷
    mul 46 20 (negsuc 45) ∷ add 71 71 46 ∷ mul 46 21 (pos 86) ∷ add 71 71 46 ∷ mul 46 22 (negsuc 77) ∷ add 71 71 46 ∷ mul 46 23 (pos 26) ∷ add 71 71 46 ∷
    mul 46 24 (pos 42) ∷ add 71 71 46 ∷ sub 71 71 42 ∷ mul 72 0 (pos 56) ∷ mul 46 1 (negsuc 86) ∷ add 72 72 46 ∷ mul 46 2 (pos 80) ∷ add 72 72 46 ∷
    mul 46 3 (negsuc 37) ∷ add 72 72 46 ∷ mul 46 4 (negsuc 20) ∷ add 72 72 46 ∷ mul 46 5 (pos 72) ∷ add 72 72 46 ∷ mul 46 6 (negsuc 89) ∷ add 72 72 46 ∷
    mul 46 7 (pos 68) ∷ add 72 72 46 ∷ mul 46 8 (negsuc 16) ∷ add 72 72 46 ∷ mul 46 9 (negsuc 41) ∷ add 72 72 46 ∷ mul 46 10 (pos 82) ∷ add 72 72 46 ∷
    mul 46 11 (negsuc 85) ∷ add 72 72 46 ∷ mul 46 13 (pos 4) ∷ add 72 72 46 ∷ mul 46 14 (negsuc 59) ∷ add 72 72 46 ∷ mul 46 15 (pos 88) ∷ add 72 72 46 ∷
    mul 46 16 (negsuc 77) ∷ add 72 72 46 ∷ mul 46 17 (pos 34) ∷ add 72 72 46 ∷ mul 46 18 (pos 26) ∷ add 72 72 46 ∷ mul 46 19 (negsuc 73) ∷ add 72 72 46 ∷
    mul 46 20 (pos 90) ∷ add 72 72 46 ∷ mul 46 21 (negsuc 65) ∷ add 72 72 46 ∷ mul 46 22 (pos 13) ∷ add 72 72 46 ∷ mul 46 23 (pos 46) ∷ add 72 72 46 ∷
    mul 46 24 (negsuc 83) ∷ add 72 72 46 ∷ add 72 72 42 ∷ mul 73 0 (pos 50) ∷ mul 46 1 (negsuc 81) ∷ add 73 73 46 ∷ mul 46 2 (pos 88) ∷ add 73 73 46 ∷
    mul 46 3 (negsuc 65) ∷ add 73 73 46 ∷ mul 46 4 (pos 21) ∷ add 73 73 46 ∷ mul 46 5 (pos 30) ∷ add 73 73 46 ∷ mul 46 6 (negsuc 71) ∷ add 73 73 46 ∷
    mul 46 7 (pos 90) ∷ add 73 73 46 ∷ mul 46 8 (negsuc 77) ∷ add 73 73 46 ∷ mul 46 9 (pos 42) ∷ add 73 73 46 ∷ mul 46 10 (pos 9) ∷ add 73 73 46 ∷
    mul 46 11 (negsuc 55) ∷ add 73 73 46 ∷ mul 46 13 (negsuc 85) ∷ add 73 73 46 ∷ mul 46 14 (pos 60) ∷ add 73 73 46 ∷ mul 46 15 (negsuc 12) ∷ add 73 73 46 ∷
    mul 46 16 (negsuc 37) ∷ add 73 73 46 ∷ mul 46 17 (pos 77) ∷ add 73 73 46 ∷ mul 46 18 (negsuc 89) ∷ add 73 73 46 ∷ mul 46 19 (pos 74) ∷ add 73 73 46 ∷
    mul 46 20 (negsuc 33) ∷ add 73 73 46 ∷ mul 46 21 (negsuc 16) ∷ add 73 73 46 ∷ mul 46 22 (pos 63) ∷ add 73 73 46 ∷ mul 46 23 (negsuc 86) ∷ add 73 73 46 ∷
    mul 46 24 (pos 84) ∷ add 73 73 46 ∷ add 73 73 45 ∷ mul 74 32 (pos 42) ∷ mul 46 33 (negsuc 73) ∷ add 74 74 46 ∷ mul 46 34 (pos 89) ∷ add 74 74 46 ∷
    mul 46 35 (negsuc 83) ∷ add 74 74 46 ∷ mul 46 36 (pos 60) ∷ add 74 74 46 ∷ mul 46 37 (negsuc 20) ∷ add 74 74 46 ∷ mul 75 0 (pos 34) ∷ mul 46 1 (negsuc 62) ∷
    add 75 75 46 ∷ mul 46 2 (pos 82) ∷ add 75 75 46 ∷ mul 46 3 (negsuc 89) ∷ add 75 75 46 ∷ mul 46 4 (pos 84) ∷ add 75 75 46 ∷ mul 46 5 (negsuc 65) ∷
    add 75 75 46 ∷ mul 46 6 (pos 38) ∷ add 75 75 46 ∷ mul 46 7 (negsuc 3) ∷ add 75 75 46 ∷ mul 46 8 (negsuc 29) ∷ add 75 75 46 ∷ mul 46 9 (pos 60) ∷
    add 75 75 46 ∷ mul 46 10 (negsuc 79) ∷ add 75 75 46 ∷ mul 46 11 (pos 90) ∷ add 75 75 46 ∷ mul 46 13 (pos 68) ∷ add 75 75 46 ∷ mul 46 14 (negsuc 41) ∷
    add 75 75 46 ∷ mul 46 15 (pos 9) ∷ add 75 75 46 ∷ mul 46 16 (pos 26) ∷ add 75 75 46 ∷ mul 46 17 (negsuc 55) ∷ add 75 75 46 ∷ mul 46 18 (pos 78) ∷
    add 75 75 46 ∷ mul 46 19 (negsuc 88) ∷ add 75 75 46 ∷ mul 46 20 (pos 86) ∷ add 75 75 46 ∷ mul 46 21 (negsuc 71) ∷ add 75 75 46 ∷ mul 46 22 (pos 46) ∷
    add 75 75 46 ∷ mul 46 23 (negsuc 12) ∷ add 75 75 46 ∷ mul 46 24 (negsuc 20) ∷ add 75 75 46 ∷ sub 75 75 45 ∷ mul 76 0 (pos 26) ∷ mul 46 1 (negsuc 49) ∷
    add 76 76 46 ∷ mul 46 2 (pos 68) ∷ add 76 76 46 ∷ mul 46 3 (negsuc 81) ∷ add 76 76 46 ∷ mul 46 4 (pos 89) ∷ add 76 76 46 ∷ mul 46 5 (negsuc 87) ∷
    add 76 76 46 ∷ mul 46 6 (pos 80) ∷ add 76 76 46 ∷ mul 46 7 (negsuc 65) ∷ add 76 76 46 ∷ mul 46 8 (pos 46) ∷ add 76 76 46 ∷ mul 46 9 (negsuc 20) ∷
    add 76 76 46 ∷ mul 46 10 (negsuc 3) ∷ add 76 76 46 ∷ mul 46 11 (pos 30) ∷ add 76 76 46 ∷ mul 46 13 (pos 72) ∷ add 76 76 46 ∷ mul 46 14 (negsuc 83) ∷
    add 76 76 46 ∷ mul 46 15 (pos 90) ∷ add 76 76 46 ∷ mul 46 16 (negsuc 86) ∷ add 76 76 46 ∷ mul 46 17 (pos 78) ∷ add 76 76 46 ∷ mul 46 18 (negsuc 62) ∷
    add 76 76 46 ∷ mul 46 19 (pos 42) ∷ add 76 76 46 ∷ mul 46 20 (negsuc 16) ∷ add 76 76 46 ∷ mul 46 21 (negsuc 8) ∷ add 76 76 46 ∷ mul 46 22 (pos 34) ∷
    add 76 76 46 ∷ mul 46 23 (negsuc 55) ∷ add 76 76 46 ∷ mul 46 24 (pos 74) ∷ add 76 76 46 ∷ sub 76 76 42 ∷ mul 77 0 (pos 17) ∷ mul 46 1 (negsuc 33) ∷
    add 77 77 46 ∷ mul 46 2 (pos 50) ∷ add 77 77 46 ∷ mul 46 3 (negsuc 62) ∷ add 77 77 46 ∷ mul 46 4 (pos 74) ∷ add 77 77 46 ∷ mul 46 5 (negsuc 81) ∷
    add 77 77 46 ∷ mul 46 6 (pos 87) ∷ add 77 77 46 ∷ mul 46 7 (negsuc 89) ∷ add 77 77 46 ∷ mul 46 8 (pos 88) ∷ add 77 77 46 ∷ mul 46 9 (negsuc 83) ∷
    add 77 77 46 ∷ mul 46 10 (pos 77) ∷ add 77 77 46 ∷ mul 46 11 (negsuc 65) ∷ add 77 77 46 ∷ mul 46 13 (negsuc 37) ∷ add 77 77 46 ∷ mul 46 14 (pos 21) ∷
    add 77 77 46 ∷ mul 46 15 (negsuc 3) ∷ add 77 77 46 ∷ mul 46 16 (negsuc 12) ∷ add 77 77 46 ∷ mul 46 17 (pos 30) ∷ add 77 77 46 ∷ mul 46 18 (negsuc 45) ∷
    add 77 77 46 ∷ mul 46 19 (pos 60) ∷ add 77 77 46 ∷ mul 46 20 (negsuc 71) ∷ add 77 77 46 ∷ mul 46 21 (pos 80) ∷ add 77 77 46 ∷ mul 46 22 (negsuc 85) ∷
    add 77 77 46 ∷ mul 46 23 (pos 90) ∷ add 77 77 46 ∷ mul 46 24 (negsuc 88) ∷ add 77 77 46 ∷ add 77 77 42 ∷ mul 78 0 (pos 9) ∷ mul 46 1 (negsuc 16) ∷
    add 78 78 46 ∷ mul 46 2 (pos 26) ∷ add 78 78 46 ∷ mul 46 3 (negsuc 33) ∷ add 78 78 46 ∷ mul 46 4 (pos 42) ∷ add 78 78 46 ∷ mul 46 5 (negsuc 49) ∷
    add 78 78 46 ∷ mul 46 6 (pos 56) ∷ add 78 78 46 ∷ mul 46 7 (negsuc 62) ∷ add 78 78 46 ∷ mul 46 8 (pos 68) ∷ add 78 78 46 ∷ mul 46 9 (negsuc 73) ∷
    add 78 78 46 ∷ mul 46 10 (pos 78) ∷ add 78 78 46 ∷ mul 46 11 (negsuc 81) ∷ add 78 78 46 ∷ mul 46 13 (negsuc 86) ∷ add 78 78 46 ∷ mul 46 14 (pos 89) ∷
    add 78 78 46 ∷ mul 46 15 (negsuc 89) ∷ add 78 78 46 ∷ mul 46 16 (pos 90) ∷ add 78 78 46 ∷ mul 46 17 (negsuc 87) ∷ add 78 78 46 ∷ mul 46 18 (pos 86) ∷
    add 78 78 46 ∷ mul 46 19 (negsuc 83) ∷ add 78 78 46 ∷ mul 46 20 (pos 80) ∷ add 78 78 46 ∷ mul 46 21 (negsuc 76) ∷ add 78 78 46 ∷ mul 46 22 (pos 72) ∷
    add 78 78 46 ∷ mul 46 23 (negsuc 65) ∷ add 78 78 46 ∷ mul 46 24 (pos 60) ∷ add 78 78 46 ∷ add 78 78 45 ∷ []

unfoldable pub list32 : StepList
list32 = record { inputs = 32; cells = 79; steps = steps32; outs = 47 ∷ 48 ∷ 49 ∷ 50 ∷ 51 ∷ 52 ∷ 53 ∷ 54 ∷ 55 ∷ 56 ∷ 57 ∷ 58 ∷ 59 ∷ 60 ∷ 61 ∷ 62 ∷ 63 ∷ 64 ∷ 65 ∷ 66 ∷ 67 ∷ 68 ∷ 69 ∷ 70 ∷ 71 ∷ 72 ∷ 73 ∷ 74 ∷ 75 ∷ 76 ∷ 77 ∷ 78 ∷ [] }
