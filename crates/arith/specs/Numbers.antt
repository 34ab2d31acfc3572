-- The numbers that definitions name, each by the bits of its f32.
use Rattle.std.specs.Prelude.{Float}
use Rattle.arith.specs.Floats.{f32}

abbrev pub 0·0 : Float
0·0 = f32 0

abbrev pub 0·000001 : Float
0·000001 = f32 0x3586_37bd

abbrev pub 0·0001 : Float
0·0001 = f32 0x38d1_b717

abbrev pub 0·001 : Float
0·001 = f32 0x3a83_126f

abbrev pub 0·1 : Float
0·1 = f32 0x3dcc_cccd

abbrev pub 0·5 : Float
0·5 = f32 0x3f00_0000

abbrev pub 0·9999 : Float
0·9999 = f32 0x3f7f_f972

abbrev pub 0·999999 : Float
0·999999 = f32 0x3f7f_ffef

abbrev pub 1·0 : Float
1·0 = f32 0x3f80_0000

abbrev pub 2·0 : Float
2·0 = f32 0x4000_0000

abbrev pub 3·2 : Float
3·2 = f32 0x404c_cccd

abbrev pub 4·0 : Float
4·0 = f32 0x4080_0000

abbrev pub 5·0 : Float
5·0 = f32 0x40a0_0000

abbrev pub 30·0 : Float
30·0 = f32 0x41f0_0000

abbrev pub 80·0 : Float
80·0 = f32 0x42a0_0000

abbrev pub 89·9 : Float
89·9 = f32 0x42b3_cccd

abbrev pub 89·99 : Float
89·99 = f32 0x42b3_fae1

abbrev pub 90·0 : Float
90·0 = f32 0x42b4_0000

abbrev pub 100·0 : Float
100·0 = f32 0x42c8_0000

abbrev pub 200·0 : Float
200·0 = f32 0x4348_0000

abbrev pub 999·0 : Float
999·0 = f32 0x4479_c000

abbrev pub 1000·0 : Float
1000·0 = f32 0x447a_0000

abbrev pub 2000·0 : Float
2000·0 = f32 0x44fa_0000

abbrev pub 10000·0 : Float
10000·0 = f32 0x461c_4000

abbrev pub 20100·0 : Float
20100·0 = f32 0x469d_0800

abbrev pub 99999·0 : Float
99999·0 = f32 0x47c3_4f80

abbrev pub 1000000·0 : Float
1000000·0 = f32 0x4974_2400
